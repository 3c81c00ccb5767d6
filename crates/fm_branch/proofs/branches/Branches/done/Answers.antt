use Rattle.std.proofs.Common.{◌≡◌, Some, None, ap, sym, ◌∙◌}
use Rattle.std.specs.Result.{result_err}
use Rattle.dl_codec.specs.Links.{links_record}
use Rattle.dl_codec.specs.declared.links.LinksRecord.TheVariants as records
use Rattle.dl_journal.specs.Extent.{Extent}
use Rattle.meaning_areas.specs.Branches.{Branches, links_step}
use Rattle.fm_branch.proofs.HistoryLaws.{taken_new}
use Rattle.fm_branch.proofs.Seen.{does_seen, open_seen, seen}
use Rattle.fm_branch.specs.Linked.{Linked}
use Rattle.fm_branch.proofs.branches.Branches.done.Goals as goal

pub write-requires : goal.write-requires
write-requires g c = open_seen c.self.inside.journal c.self.inside.history c.args.self.now (g.B.Bench.outside c.args.bench.now) c.self.view_is c.self.invariant c.requires.ready

pub invariant_of-self : goal.invariant_of-self
invariant_of-self g c = c.write.ensures.does.area ∙ c.self.invariant

pub invariant_of-self-in-Err : goal.invariant_of-self-in-Err
invariant_of-self-in-Err g c = c.write.ensures.does.area ∙ c.self.invariant

pub returns-in-Ok : goal.returns-in-Ok
returns-in-Ok g c =
    let O = g.B.Bench.outside in
    let was = c.self.inside.history in
    let j = c.self.inside.journal in
    let k = c.write.new.journal in
    let now = c.args.self.now in
    let is : was.links ≡ now.links = ap (λ (s : Linked). s.links) c.self.view_is in
    let prepared = c.ends.ensures.prepared ∙ ap (λ (s : Linked). s.prepared) c.self.view_is in
    let limit = ap (λ (e : Extent). e.limit) c.in-Ok.ensures.ok ∙ ap (λ (s : Linked). s.limit) c.self.view_is in
    record {
      links = taken_new (links_step now.links (records.Done c.args.tx)) c.ends.result c.ends.new.self.links c.requires.taken
          (ap (λ (l : Branches). links_step l (records.Done c.args.tx)) (sym is) ∙ c.ends.ensures.links);
      same = λ i. record { links = c.ends.new.self.links; prepared = prepared i; length = k.length; limit = limit i };
      err = tt;
      does = does_seen j k was c.ends.new.self now c.done_body.result (links_record.spelling (records.Done c.args.tx)) c.write.result None (O c.args.bench.now) (O c.write.new.bench)
          c.self.view_is c.self.invariant c.done_body.ensures (ap result_err c.in-Ok.is) c.write.ensures.does;
    }

pub returns-in-Err : goal.returns-in-Err
returns-in-Err g c =
    let O = g.B.Bench.outside in
    let was = c.self.inside.history in
    let j = c.self.inside.journal in
    let k = c.write.new.journal in
    let now = c.args.self.now in
    record {
      links = tt;
      same = tt;
      err = ap (λ (e : Extent). seen e was) c.in-Err.ensures.err ∙ c.self.view_is;
      does = does_seen j k was was now c.done_body.result (links_record.spelling (records.Done c.args.tx)) c.write.result (Some c.in-Err.fault) (O c.args.bench.now) (O c.write.new.bench)
          c.self.view_is c.self.invariant c.done_body.ensures (ap result_err c.in-Err.is) c.write.ensures.does;
    }
