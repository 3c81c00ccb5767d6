use Rattle.std.proofs.Common.{◌-◌, ℕ, OnOk, Result, slice_set, sym, subst}
use Rattle.dl_base.specs.declared.answer.Answer.{Answer}
use Rattle.dl_base.specs.declared.fault.StepFault.{StepFault}
use Rattle.dl_base.specs.declared.step.Step.TheVariants as steps
use Rattle.fm_manager.specs.Managed.{AreSpelled}
use Rattle.meaning_system.specs.Machine.{step}
use Rattle.meaning_system.specs.Writes.{writes}
use Rattle.sys_core.specs.Steps.{Steps, as_step}
use Rattle.sys_run.proofs.Shown.{own-has, own-session, own-shows, own-there}
use Rattle.sys_run.proofs.step.decide.Goals as goal
use Rattle.sys_run.specs.Sessions.{AreShown}

pub decide-requires-clause-stands : goal.decide-requires-clause-stands
decide-requires-clause-stands g c =
    let (first, s, is, shown) = c.requires.stands in
    (first, s, is, own-has s c.args.txns.now c.args.session c.in-Some.txn.now shown c.requires.of.0 (sym c.in-Some.ensures.value))

pub returns-clause-steps : goal.returns-clause-steps
returns-clause-steps g c first s is shown =
    subst (λ (r : Result Answer StepFault). Steps first (steps.Decide c.args.session) s c.args.engine.now c.decide.new.self r (g.B.Bench.outside c.args.bench.now) (g.B.Bench.outside c.decide.new.bench)) (sym c.as_step.ensures)
    (subst (λ (n : ℕ). Steps first (steps.Decide n) s c.args.engine.now c.decide.new.self (as_step c.decide.result) (g.B.Bench.outside c.args.bench.now) (g.B.Bench.outside c.decide.new.bench)) (own-session s c.args.txns.now c.args.session c.in-Some.txn.now shown c.requires.of.0 (sym c.in-Some.ensures.value))
    (c.decide.ensures.steps first s is (own-has s c.args.txns.now c.args.session c.in-Some.txn.now shown c.requires.of.0 (sym c.in-Some.ensures.value))))

pub returns-clause-spelled : goal.returns-clause-spelled
returns-clause-spelled g c first s is shown =
    subst (λ (n : ℕ). AreSpelled (writes s (steps.Decide n))) (own-session s c.args.txns.now c.args.session c.in-Some.txn.now shown c.requires.of.0 (sym c.in-Some.ensures.value))
    (c.decide.ensures.spelled first s is (own-has s c.args.txns.now c.args.session c.in-Some.txn.now shown c.requires.of.0 (sym c.in-Some.ensures.value)))

pub returns-clause-shown : goal.returns-clause-shown
returns-clause-shown g c first s is shown =
    subst (λ (r : Result Answer StepFault). OnOk r (AreShown (step s (steps.Decide c.args.session)).1 (slice_set c.args.txns.now (c.args.session - 1) c.decide.new.txn))) (sym c.as_step.ensures)
    (own-shows s c.args.txns.now c.args.session c.in-Some.txn.now shown c.requires.of.0 (sym c.in-Some.ensures.value) steps.Decide c.decide.new.txn (as_step c.decide.result) (c.decide.ensures.shows first s is (own-has s c.args.txns.now c.args.session c.in-Some.txn.now shown c.requires.of.0 (sym c.in-Some.ensures.value))) (λ m other e. other (sym e)) c.steps_leave_other_sessions.ensures.others c.steps_leave_other_sessions.ensures.kept)

pub unreachable-requires : goal.unreachable-requires
unreachable-requires g c = own-there c.args.txns.now c.args.session c.requires.of c.in-None.ensures.value
