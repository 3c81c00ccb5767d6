use Rattle.std.proofs.Common.{◌≡◌, ℕ, ◌+◌, Option, Some, None, [], ◌∷◌, sym, ap, subst, ◌∙◌, arith}
use Rattle.std.specs.Result.{result_err}
use Rattle.dl_areas.specs.Lists.{write_of}
use Rattle.dl_areas.specs.Writing.{DoesAlone}
use Rattle.dl_base.specs.Outside.{Outside}
use Rattle.dl_base.specs.declared.area.Area.TheVariants as areas
use Rattle.dl_base.specs.declared.fault.AppendFault.{AppendFault}
use Rattle.dl_base.specs.declared.fault.Full.{Full}
use Rattle.dl_base.specs.declared.fault.Full.TheVariants as fulls
use Rattle.dl_codec.specs.Links.{links_record}
use Rattle.dl_codec.specs.declared.links.LinksRecord.TheVariants as records
use Rattle.dl_journal.specs.Extent.{Extent}
use Rattle.fm_branch.proofs.Numbers.{opening_ends, opening_goes}
use Rattle.fm_branch.proofs.Seen.{does_seen, open_seen, seen}
use Rattle.fm_branch.specs.Linked.{Linked, extent, opening_write}
use Rattle.meaning_areas.specs.Full.{opening_full}
use Rattle.fm_branch.proofs.branches.Branches.announce.Goals as goal

pub returns-then-last-ge-MOST_NUMBERS-clause-does : goal.returns-then-last-ge-MOST_NUMBERS-clause-does
returns-then-last-ge-MOST_NUMBERS-clause-does g c =
    let last = c.opening-last.result in
    let is : last ≡ c.args.self.now.links.opening = c.opening-last.ensures ∙ ap (λ (x : Linked). x.links.opening) c.self.view_is in
    c.an_append_writes_one_record.ensures.exhausted (extent c.args.self.now) (opening_write c.args.self.now.links) (fulls.Openings last) c.args.bench.now
    (ap (λ (n : ℕ). opening_full (n + 1)) (sym is) ∙ opening_ends last (omega (arith, c.if-last-ge-MOST_NUMBERS.true)))

-- the write of an opening whose number is not exhausted
does_opening : (j k : Extent) (number : ℕ) (now : Linked) (fault : Option AppendFault) (o n : Outside) → opening_full number ≡ None → number ≡ now.links.opening + 1
    → DoesAlone j k (write_of areas.Links (links_record.spelling (records.Opening number)) None ∷ []) fault o n → DoesAlone j k (opening_write now.links ∷ []) fault o n
does_opening j k number now fault o n goes is does =
    subst (λ (m : ℕ). DoesAlone j k (write_of areas.Links (links_record.spelling (records.Opening m)) (opening_full m) ∷ []) fault o n) is
    (subst (λ (f : Option Full). DoesAlone j k (write_of areas.Links (links_record.spelling (records.Opening number)) f ∷ []) fault o n) (sym goes) does)

pub write-requires : goal.write-requires
write-requires g c = open_seen c.self.inside.journal c.self.inside.history c.args.self.now (g.B.Bench.outside c.args.bench.now) c.self.view_is c.self.invariant c.requires

pub invariant_of-self : goal.invariant_of-self
invariant_of-self g c = c.write.ensures.does.area ∙ c.self.invariant

pub invariant_of-self-in-Err : goal.invariant_of-self-in-Err
invariant_of-self-in-Err g c = c.write.ensures.does.area ∙ c.self.invariant

pub returns-in-Ok-clause-does : goal.returns-in-Ok-clause-does
returns-in-Ok-clause-does g c =
    let O = g.B.Bench.outside in
    let now = c.args.self.now in
    let last = c.opening-last.result in
    let is : last ≡ now.links.opening = c.opening-last.ensures ∙ ap (λ (s : Linked). s.links.opening) c.self.view_is in
    does_opening (extent now) (extent (seen c.write.new.journal c.opens.new.self)) (last + 1) now None (O c.args.bench.now) (O c.write.new.bench)
    (opening_goes last c.if-last-ge-MOST_NUMBERS.false) (ap (λ (n : ℕ). n + 1) is)
    (does_seen c.self.inside.journal c.write.new.journal c.self.inside.history c.opens.new.self now c.opening_body.result (links_record.spelling (records.Opening (last + 1))) c.write.result None
    (O c.args.bench.now) (O c.write.new.bench) c.self.view_is c.self.invariant c.opening_body.ensures (ap result_err c.in-Ok.is) c.write.ensures.does)

pub returns-in-Err : goal.returns-in-Err
returns-in-Err g c =
    let O = g.B.Bench.outside in
    let was = c.self.inside.history in
    let now = c.args.self.now in
    let last = c.opening-last.result in
    let is : last ≡ now.links.opening = c.opening-last.ensures ∙ ap (λ (s : Linked). s.links.opening) c.self.view_is in
    record {
      ok = tt;
      err = ap (λ (e : Extent). seen e was) c.in-Err.ensures.err ∙ c.self.view_is;
      does = does_opening (extent now) (extent (seen c.write.new.journal was)) (last + 1) now (Some c.in-Err.fault) (O c.args.bench.now) (O c.write.new.bench)
          (opening_goes last c.if-last-ge-MOST_NUMBERS.false) (ap (λ (n : ℕ). n + 1) is)
          (does_seen c.self.inside.journal c.write.new.journal was was now c.opening_body.result (links_record.spelling (records.Opening (last + 1))) c.write.result (Some c.in-Err.fault)
          (O c.args.bench.now) (O c.write.new.bench) c.self.view_is c.self.invariant c.opening_body.ensures (ap result_err c.in-Err.is) c.write.ensures.does);
    }
