use Rattle.std.proofs.Common.{ℕ, sym, subst}
use Rattle.dl_base.specs.declared.step.Step.TheVariants as steps
use Rattle.fm_manager.specs.Managed.{AreSpelled}
use Rattle.meaning_system.specs.Writes.{writes}
use Rattle.sys_core.specs.Steps.{Steps}
use Rattle.sys_run.proofs.Shown.{own-has, own-session, own-shows, own-there}
use Rattle.sys_run.proofs.step.prepare.Goals as goal

pub prepare-requires-clause-stands : goal.prepare-requires-clause-stands
prepare-requires-clause-stands g c =
    let (first, s, is, shown) = c.requires.stands in
    (first, s, is, own-has s c.args.txns.now c.args.session c.in-Some.txn.now shown c.requires.of.0 (sym c.in-Some.ensures.value))

pub returns-clause-steps : goal.returns-clause-steps
returns-clause-steps g c first s is shown =
    subst (λ (n : ℕ). Steps first (steps.Prepare n) s c.args.engine.now c.prepare.new.self c.prepare.result (g.B.Bench.outside c.args.bench.now) (g.B.Bench.outside c.prepare.new.bench)) (own-session s c.args.txns.now c.args.session c.in-Some.txn.now shown c.requires.of.0 (sym c.in-Some.ensures.value))
    (c.prepare.ensures.steps first s is (own-has s c.args.txns.now c.args.session c.in-Some.txn.now shown c.requires.of.0 (sym c.in-Some.ensures.value)))

pub returns-clause-spelled : goal.returns-clause-spelled
returns-clause-spelled g c kept first s is shown =
    subst (λ (n : ℕ). AreSpelled (writes s (steps.Prepare n))) (own-session s c.args.txns.now c.args.session c.in-Some.txn.now shown c.requires.of.0 (sym c.in-Some.ensures.value))
    (c.prepare.ensures.spelled kept first s is (own-has s c.args.txns.now c.args.session c.in-Some.txn.now shown c.requires.of.0 (sym c.in-Some.ensures.value)))

pub returns-clause-shown : goal.returns-clause-shown
returns-clause-shown g c first s is shown =
    own-shows s c.args.txns.now c.args.session c.in-Some.txn.now shown c.requires.of.0 (sym c.in-Some.ensures.value) steps.Prepare c.prepare.new.txn c.prepare.result (c.prepare.ensures.shows first s is (own-has s c.args.txns.now c.args.session c.in-Some.txn.now shown c.requires.of.0 (sym c.in-Some.ensures.value))) (λ m other e. other (sym e)) c.steps_leave_other_sessions.ensures.others c.steps_leave_other_sessions.ensures.kept

pub unreachable-requires : goal.unreachable-requires
unreachable-requires g c = own-there c.args.txns.now c.args.session c.requires.of c.in-None.ensures.value
