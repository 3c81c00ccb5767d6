use Rattle.std.proofs.Common.{ℕ, sym, subst}
use Rattle.dl_base.specs.declared.step.Step.TheVariants as steps
use Rattle.sys_core.specs.Steps.{StepsInMemory}
use Rattle.sys_run.proofs.Shown.{own-has, own-session, own-shows, own-there}
use Rattle.sys_run.proofs.step.state.Goals as goal

pub statement-requires-clause-stands : goal.statement-requires-clause-stands
statement-requires-clause-stands c =
    let (first, s, is, shown) = c.requires.stands in
    (first, s, is, own-has s c.args.txns.now c.args.session c.in-Some.txn.now shown c.requires.of.0 (sym c.in-Some.ensures.value))

pub returns-clause-steps : goal.returns-clause-steps
returns-clause-steps c first s is shown =
    subst (λ (n : ℕ). StepsInMemory first (steps.Statement n c.args.stmt.now) s c.args.engine.now c.statement.new.self c.statement.result) (own-session s c.args.txns.now c.args.session c.in-Some.txn.now shown c.requires.of.0 (sym c.in-Some.ensures.value))
    (c.statement.ensures.steps first s is (own-has s c.args.txns.now c.args.session c.in-Some.txn.now shown c.requires.of.0 (sym c.in-Some.ensures.value)))

pub returns-clause-shown : goal.returns-clause-shown
returns-clause-shown c first s is shown =
    own-shows s c.args.txns.now c.args.session c.in-Some.txn.now shown c.requires.of.0 (sym c.in-Some.ensures.value) (λ (n : ℕ). steps.Statement n c.args.stmt.now) c.statement.new.txn c.statement.result (c.statement.ensures.shows first s is (own-has s c.args.txns.now c.args.session c.in-Some.txn.now shown c.requires.of.0 (sym c.in-Some.ensures.value))) (λ m other e. other (sym e)) c.steps_leave_other_sessions.ensures.others c.steps_leave_other_sessions.ensures.kept

pub unreachable-requires : goal.unreachable-requires
unreachable-requires c = own-there c.args.txns.now c.args.session c.requires.of c.in-None.ensures.value
