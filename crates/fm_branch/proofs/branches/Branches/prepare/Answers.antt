use Rattle.std.proofs.Common.{◌≡◌, ◌∷◌, ◌++◌, [], Some, None, Err, refl, sym, ap, ◌∙◌, subst, rules}
use Rattle.std.specs.FinMap as maps
use Rattle.std.specs.Result.{result_err}
use Rattle.dl_areas.specs.Writing.{EndsAlone}
use Rattle.dl_base.specs.declared.fault.StepFault.{StepFault}
use Rattle.dl_base.specs.declared.fault.StepFault.TheVariants as steps
use Rattle.dl_codec.specs.Links.{links_record}
use Rattle.dl_codec.specs.declared.links.LinksRecord.TheVariants as records
use Rattle.dl_journal.specs.Extent.{Extent}
use Rattle.fm_branch.proofs.Ends.{ended_before}
use Rattle.fm_branch.proofs.Seen.{does_seen, fails_ok, fails_so, open_seen, prepared_new, prepared_taken, seen}
use Rattle.fm_branch.specs.Linked.{Linked, Recorded, extent, write_for}
use Rattle.meaning_areas.specs.Branches.{with_branch}
use Rattle.fm_branch.proofs.branches.Branches.prepare.Goals as goal

pub returns-in_err-body : goal.returns-in_err-body
returns-in_err-body g c =
    let is : c.from_residual.result ≡ Err steps.Memory = search rules in
    let written = write_for (records.Prepared c.args.tx c.args.gives c.args.takes) ∷ [] in
    record {
      links = fails_ok _ c.from_residual.result steps.Memory is;
      prepared = fails_ok _ c.from_residual.result steps.Memory is;
      limit = refl;
      err = fails_so c.from_residual.result refl;
      ends = ended_before (extent c.args.self.now) (extent c.args.self.now) written c.from_residual.result (g.B.Bench.outside c.args.bench.now)
          (c.steps_end_so.ensures.alone_memory (extent c.args.self.now) written c.args.bench.now) refl is;
      spelled = λ other. absurd (other is);
    }

pub returns-in_err-enter : goal.returns-in_err-enter
returns-in_err-enter g c =
    let j = c.self.inside.journal in
    let is : c.from_residual-in_err-enter.result ≡ Err steps.Memory = search rules in
    let written = write_for (records.Prepared c.args.tx c.args.gives c.args.takes) ∷ [] in
    let same = ap (λ (h : Recorded). seen j h) c.in_err-enter.ensures.err ∙ c.self.view_is in
    record {
      links = fails_ok _ c.from_residual-in_err-enter.result steps.Memory is;
      prepared = fails_ok _ c.from_residual-in_err-enter.result steps.Memory is;
      limit = ap (λ (s : Linked). s.limit) c.self.view_is;
      err = fails_so c.from_residual-in_err-enter.result same;
      ends = ended_before (extent c.args.self.now) (extent (seen j c.enter.new.self)) written c.from_residual-in_err-enter.result (g.B.Bench.outside c.args.bench.now)
          (c.steps_end_so.ensures.alone_memory (extent c.args.self.now) written c.args.bench.now) (ap extent same) is;
      spelled = λ other. absurd (other is);
    }

pub write-requires : goal.write-requires
write-requires g c = open_seen c.self.inside.journal c.self.inside.history c.args.self.now (g.B.Bench.outside c.args.bench.now) c.self.view_is c.self.invariant c.requires.ready

pub invariant_of-self : goal.invariant_of-self
invariant_of-self g c = c.self.invariant

pub invariant_of-self-in-Ok : goal.invariant_of-self-in-Ok
invariant_of-self-in-Ok g c = c.write.ensures.does.area ∙ c.self.invariant

pub invariant_of-self-in-Err : goal.invariant_of-self-in-Err
invariant_of-self-in-Err g c = c.write.ensures.does.area ∙ c.self.invariant

pub returns-in-Ok : goal.returns-in-Ok
returns-in-Ok g c =
    let O = g.B.Bench.outside in
    let was = c.self.inside.history in
    let j = c.self.inside.journal in
    let k = c.write.new.journal in
    let now = c.args.self.now in
    let x = records.Prepared c.args.tx c.args.gives c.args.takes in
    let entered = c.in_ok-enter.ensures.ok in
    record {
      links = prepared_taken now.links c.args.tx c.args.gives c.args.takes (maps.get now.links.table c.args.tx) c.requires.taken
          ∙ sym (ap (λ (h : Recorded). Some h.links) entered ∙ (λ i. Some (with_branch (c.self.view_is i).links c.args.tx (c.in_ok-body.ensures.entry i))));
      prepared = ap (λ (h : Recorded). h.prepared) entered ∙ ap (λ (s : Linked). s.prepared ++ c.args.tx ∷ []) c.self.view_is;
      limit = ap (λ (e : Extent). e.limit) c.in-Ok.ensures.ok ∙ ap (λ (s : Linked). s.limit) c.self.view_is;
      err = tt;
      ends = c.steps_end_so.ensures.alone (extent now) (extent (seen k c.enter.new.self)) (write_for x ∷ []) None c.args.bench.now c.write.new.bench
          (does_seen j k was c.enter.new.self now c.as_slice.result.now (links_record.spelling x) c.write.result None (O c.args.bench.now) (O c.write.new.bench)
          c.self.view_is c.self.invariant (c.as_slice.ensures ∙ c.in_ok-body.ensures.body) (ap result_err c.in-Ok.is) c.write.ensures.does);
      spelled = λ other. c.in_ok-body.ensures.fits;
    }

pub returns : goal.returns
returns g c =
    let O = g.B.Bench.outside in
    let was = c.self.inside.history in
    let j = c.self.inside.journal in
    let k = c.write.new.journal in
    let now = c.args.self.now in
    let x = records.Prepared c.args.tx c.args.gives c.args.takes in
    let new = ap (λ (s : Linked). maps.get s.links.table c.args.tx) c.self.view_is ∙ prepared_new now.links c.args.tx c.args.gives c.args.takes (maps.get now.links.table c.args.tx) c.requires.taken in
    let back : c.take_back.new.self ≡ was = c.take_back.ensures was c.args.tx c.in_ok-body.entry new c.in_ok-enter.ensures.ok in
    let kept : k ≡ j = c.in-Err.ensures.err in
    record {
      links = tt;
      prepared = tt;
      limit = ap (λ (e : Extent). e.limit) kept ∙ ap (λ (s : Linked). s.limit) c.self.view_is;
      err = (λ i. seen (kept i) (back i)) ∙ c.self.view_is;
      ends = subst (λ (e : StepFault). EndsAlone (extent now) (extent (seen k c.take_back.new.self)) (write_for x ∷ []) (Some e) (O c.args.bench.now) (O c.write.new.bench)) (sym c.from.ensures)
          (c.steps_end_so.ensures.alone (extent now) (extent (seen k c.take_back.new.self)) (write_for x ∷ []) (Some c.in-Err.fault) c.args.bench.now c.write.new.bench
          (does_seen j k was c.take_back.new.self now c.as_slice.result.now (links_record.spelling x) c.write.result (Some c.in-Err.fault) (O c.args.bench.now) (O c.write.new.bench)
          c.self.view_is c.self.invariant (c.as_slice.ensures ∙ c.in_ok-body.ensures.body) (ap result_err c.in-Err.is) c.write.ensures.does));
      spelled = λ other. c.in_ok-body.ensures.fits;
    }
