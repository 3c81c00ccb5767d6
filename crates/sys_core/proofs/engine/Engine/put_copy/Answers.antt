use Rattle.std.proofs.Common.{Err, sym, ap, ◌∙◌, subst}
use Rattle.dl_base.specs.declared.fault.StepFault.{StepFault}
use Rattle.dl_base.specs.declared.step.Step.TheVariants as steps
use Rattle.sys_core.proofs.Stepped.{not-memory}
use Rattle.sys_core.proofs.Stored.{Laws, copy-room, copy-spelled, copy-taken, later, not-stored, stored}
use Rattle.sys_core.specs.Steps.{Steps}
use Rattle.sys_owners.proofs.Placing.{manager-open}
use Rattle.sys_core.proofs.engine.Engine.put_copy.Goals as goal

pub store-requires-clause-ready : goal.store-requires-clause-ready
store-requires-clause-ready g c = manager-open c.args.self.now.owners (g.B.Bench.outside c.args.bench.now) c.requires.ready

pub store-requires-clause-room : goal.store-requires-clause-room
store-requires-clause-room g c =
    let n = c.requires.stands in
    let laws : Laws = record { leads = c.each_step_leads_on.ensures.kept; claims = c.claims_behind_other_steps.ensures.archive; pieces = c.pieces_stay_what_they_are.ensures } in
    copy-room laws n.0 c.args.self.now n.1 n.2 c.args.copy n.3

pub store-requires-clause-taken : goal.store-requires-clause-taken
store-requires-clause-taken g c =
    let n = c.requires.stands in
    let laws : Laws = record { leads = c.each_step_leads_on.ensures.kept; claims = c.claims_behind_other_steps.ensures.archive; pieces = c.pieces_stay_what_they_are.ensures } in
    copy-taken laws n.0 c.args.self.now n.1 n.2 c.args.copy n.3

pub returns-in-Ok : goal.returns-in-Ok
returns-in-Ok g c =
    let O = g.B.Bench.outside in
    let w = c.args.self.now in
    let laws : Laws = record { leads = c.each_step_leads_on.ensures.kept; claims = c.claims_behind_other_steps.ensures.archive; pieces = c.pieces_stay_what_they_are.ensures } in
    let e = c.in-Ok.ensures in
    record {
      steps = λ first s n can. stored laws first w s n c.args.copy can c.store.new.self (O c.args.bench.now) (O c.store.new.bench) c.requires.ready e.folds e.spare e.does;
      spelled = λ first s n can. copy-spelled laws first w s n c.args.copy can c.is_spelled.ensures;
      never = λ e. cc;
    }

pub returns-in-Err : goal.returns-in-Err
returns-in-Err g c =
    let O = g.B.Bench.outside in
    let w = c.args.self.now in
    let laws : Laws = record { leads = c.each_step_leads_on.ensures.kept; claims = c.claims_behind_other_steps.ensures.archive; pieces = c.pieces_stay_what_they_are.ensures } in
    record {
      steps = λ first s n can.
          subst (λ (q : StepFault). Steps first (steps.Archive n) s w (later laws first w s n c.args.copy can c.store.new.self (O c.args.bench.now) (O c.store.new.bench) c.requires.ready) (Err q) (O c.args.bench.now) (O c.store.new.bench)) (sym c.from.ensures)
          (not-stored laws first w s n c.args.copy can c.store.new.self (O c.args.bench.now) (O c.store.new.bench) c.requires.ready c.in-Err.fault c.in-Err.ensures.does);
      spelled = λ first s n can. copy-spelled laws first w s n c.args.copy can c.is_spelled.ensures;
      never = λ e. not-memory c.in-Err.fault (ap (λ (q : StepFault). Err q) (sym c.from.ensures) ∙ e);
    }
