use Rattle.std.proofs.Common.{◌≡◌, ℕ, Result, Ok, OnOk, List, [], length, refl, sym, subst, arith}
use Rattle.std.proofs.lemmas.Grind.{common_steps}
use Rattle.db_txn.specs.Transaction.{Transaction}
use Rattle.dl_base.specs.Outside.{Outside}
use Rattle.dl_base.specs.declared.answer.Answer.{Answer}
use Rattle.dl_base.specs.declared.fault.StepFault.{StepFault}
use Rattle.dl_base.specs.declared.step.Step.{Step}
use Rattle.dl_base.specs.declared.step.Step.TheVariants as steps
use Rattle.fm_manager.specs.Managed.{AreSpelled}
use Rattle.meaning_system.specs.Machine.{step}
use Rattle.meaning_system.specs.State.{State}
use Rattle.meaning_system.specs.Writes.{writes}
use Rattle.sys_core.specs.Steps.{Steps, draws}
use Rattle.sys_core.specs.declared.engine.Engine.{Engine}
use Rattle.sys_run.proofs.InMemory.{begin-spelled, in-memory, tick-spelled}
use Rattle.sys_run.proofs.Restoring.{on-any}
use Rattle.sys_run.proofs.Shown.{shown-still}
use Rattle.sys_run.proofs.step.do_step.Goals as goal
use Rattle.sys_run.specs.Sessions.{AreShown, IsStepOf}

-- ---- what holds of the step of an arm, of the step that is asked for

of-as : (count : ℕ) {x y : Step} → x ≡ y → IsStepOf count x → IsStepOf count y
of-as count is = subst (IsStepOf count) is

steps-as : {first : ℕ} {x y : Step} {s : State} {w v : Engine} {r : Result Answer StepFault} {o n : Outside} → x ≡ y → Steps first y s w v r o n → Steps first x s w v r o n
steps-as {first} {x} {y} {s} {w} {v} {r} {o} {n} is = subst (λ (z : Step). Steps first z s w v r o n) (sym is)

shown-as : (s : State) (r : Result Answer StepFault) (txns : List Transaction) {x y : Step} → x ≡ y → OnOk r (AreShown (step s y).1 txns) → OnOk r (AreShown (step s x).1 txns)
shown-as s r txns is = subst (λ (z : Step). OnOk r (AreShown (step s z).1 txns)) (sym is)

spelled-as : (s : State) {x y : Step} → x ≡ y → AreSpelled (writes s y) → AreSpelled (writes s x)
spelled-as s is = subst (λ (z : Step). AreSpelled (writes s z)) (sym is)

-- ---- the arms

pub begin-requires : goal.begin-requires
begin-requires g c = record { of = of-as (length c.args.txns.now) c.in-Begin.is c.requires.of; stands = c.requires.stands }

pub returns-in-Begin : goal.returns-in-Begin
returns-in-Begin g c = record {
  steps = λ first s is shown. steps-as c.in-Begin.is (in-memory first (steps.Begin c.in-Begin.session) s c.args.engine.now c.begin.new.engine c.begin.result (g.B.Bench.outside c.args.bench.now) (c.begin.ensures.steps first s is shown));
  shown = λ first s is shown. shown-as s c.begin.result c.begin.new.txns c.in-Begin.is (c.begin.ensures.shown first s is shown);
  spelled = λ kept first s is shown none. spelled-as s c.in-Begin.is (begin-spelled s c.in-Begin.session);
  count = c.begin.ensures.count;
}

pub do_statement-answered-requires : goal.do_statement-answered-requires
do_statement-answered-requires g c = record { ready = c.requires.ready; of = of-as (length c.args.txns.now) c.in-Statement.is c.requires.of; stands = c.requires.stands }

pub returns-in-Statement : goal.returns-in-Statement
returns-in-Statement g c = record {
  steps = λ first s is shown. steps-as c.in-Statement.is (c.do_statement-answered.ensures.steps first s is shown);
  shown = λ first s is shown. shown-as s c.do_statement-answered.result c.do_statement-answered.new.txns c.in-Statement.is (c.do_statement-answered.ensures.shown first s is shown);
  spelled = λ kept first s is shown none. spelled-as s c.in-Statement.is (c.do_statement-answered.ensures.spelled first s is shown);
  count = c.do_statement-answered.ensures.count;
}

pub prepare-requires : goal.prepare-requires
prepare-requires g c = record { ready = c.requires.ready; of = of-as (length c.args.txns.now) c.in-Prepare.is c.requires.of; stands = c.requires.stands }

pub returns-in-Prepare : goal.returns-in-Prepare
returns-in-Prepare g c = record {
  steps = λ first s is shown. steps-as c.in-Prepare.is (c.prepare.ensures.steps first s is shown);
  shown = λ first s is shown. shown-as s c.prepare.result c.prepare.new.txns c.in-Prepare.is (c.prepare.ensures.shown first s is shown);
  spelled = λ kept first s is shown none. spelled-as s c.in-Prepare.is (c.prepare.ensures.spelled kept first s is shown);
  count = c.prepare.ensures.count;
}

pub decide-requires : goal.decide-requires
decide-requires g c = record { ready = c.requires.ready; of = of-as (length c.args.txns.now) c.in-Decide.is c.requires.of; stands = c.requires.stands }

pub returns-in-Decide : goal.returns-in-Decide
returns-in-Decide g c = record {
  steps = λ first s is shown. steps-as c.in-Decide.is (c.decide.ensures.steps first s is shown);
  shown = λ first s is shown. shown-as s c.decide.result c.decide.new.txns c.in-Decide.is (c.decide.ensures.shown first s is shown);
  spelled = λ kept first s is shown none. spelled-as s c.in-Decide.is (c.decide.ensures.spelled first s is shown);
  count = c.decide.ensures.count;
}

pub finish-requires : goal.finish-requires
finish-requires g c = record { ready = c.requires.ready; of = of-as (length c.args.txns.now) c.in-Finish.is c.requires.of; stands = c.requires.stands }

pub returns-in-Finish : goal.returns-in-Finish
returns-in-Finish g c = record {
  steps = λ first s is shown. steps-as c.in-Finish.is (c.finish.ensures.steps first s is shown);
  shown = λ first s is shown. shown-as s c.finish.result c.finish.new.txns c.in-Finish.is (c.finish.ensures.shown first s is shown);
  spelled = λ kept first s is shown none. spelled-as s c.in-Finish.is (c.finish.ensures.spelled first s is shown);
  count = c.finish.ensures.count;
}

pub roll_back-requires : goal.roll_back-requires
roll_back-requires g c = record { ready = c.requires.ready; of = of-as (length c.args.txns.now) c.in-Rollback.is c.requires.of; stands = c.requires.stands }

pub returns-in-Rollback : goal.returns-in-Rollback
returns-in-Rollback g c = record {
  steps = λ first s is shown. steps-as c.in-Rollback.is (c.roll_back.ensures.steps first s is shown);
  shown = λ first s is shown. shown-as s c.roll_back.result c.roll_back.new.txns c.in-Rollback.is (c.roll_back.ensures.shown first s is shown);
  spelled = λ kept first s is shown none. spelled-as s c.in-Rollback.is (c.roll_back.ensures.spelled first s is shown);
  count = c.roll_back.ensures.count;
}

pub command-requires : goal.command-requires
command-requires g c = record { ready = c.requires.ready; stands = let (first, s, is, shown) = c.requires.stands in (first, s, is) }

pub returns-in-File : goal.returns-in-File
returns-in-File g c = record {
  steps = λ first s is shown. steps-as c.in-File.is (c.command.ensures.steps first s is);
  shown = λ first s is shown. shown-as s c.command.result c.args.txns.now c.in-File.is (on-any c.command.result (shown-still s c.args.txns.now (steps.File c.in-File.cmd) (λ n. tt) c.steps_leave_other_sessions.ensures.others c.steps_leave_other_sessions.ensures.kept shown));
  spelled = λ kept first s is shown none. spelled-as s c.in-File.is (c.command.ensures.spelled kept first s is);
  count = refl;
}

pub archive-requires : goal.archive-requires
archive-requires g c = record { ready = c.requires.ready; stands = let (first, s, is, shown) = c.requires.stands in (first, s, is) }

pub returns-in-Archive : goal.returns-in-Archive
returns-in-Archive g c = record {
  steps = λ first s is shown. steps-as c.in-Archive.is (c.archive.ensures.steps first s is);
  shown = λ first s is shown. shown-as s c.archive.result c.args.txns.now c.in-Archive.is (on-any c.archive.result (shown-still s c.args.txns.now (steps.Archive c.in-Archive.link) (λ n. tt) c.steps_leave_other_sessions.ensures.others c.steps_leave_other_sessions.ensures.kept shown));
  spelled = λ kept first s is shown none. spelled-as s c.in-Archive.is (c.archive.ensures.spelled kept first s is);
  count = refl;
}

pub backup-requires : goal.backup-requires
backup-requires g c = record { ready = c.requires.ready; stands = let (first, s, is, shown) = c.requires.stands in (first, s, is) }

pub returns-in-Backup : goal.returns-in-Backup
returns-in-Backup g c = record {
  steps = λ first s is shown. steps-as c.in-Backup.is (c.backup.ensures.steps first s is);
  shown = λ first s is shown. shown-as s c.backup.result c.args.txns.now c.in-Backup.is (on-any c.backup.result (shown-still s c.args.txns.now (steps.Backup) (λ n. tt) c.steps_leave_other_sessions.ensures.others c.steps_leave_other_sessions.ensures.kept shown));
  spelled = λ kept first s is shown none. spelled-as s c.in-Backup.is (c.backup.ensures.spelled kept first s is);
  count = refl;
}

pub restore-requires : goal.restore-requires
restore-requires g c = record { ready = c.requires.ready; stands = c.requires.stands }

pub returns-in-Restore : goal.returns-in-Restore
returns-in-Restore g c = record {
  steps = λ first s is shown. steps-as c.in-Restore.is (c.restore.ensures.steps first s is shown);
  shown = λ first s is shown. shown-as s c.restore.result c.args.txns.now c.in-Restore.is (on-any c.restore.result (shown-still s c.args.txns.now (steps.Restore c.in-Restore.target) (λ n. tt) c.steps_leave_other_sessions.ensures.others c.steps_leave_other_sessions.ensures.kept shown));
  spelled = λ kept first s is shown none. spelled-as s c.in-Restore.is (c.restore.ensures.spelled kept first s is shown (subst (λ (z : Step). draws s z ≡ []) c.in-Restore.is none));
  count = refl;
}

pub returns-in-Tick : goal.returns-in-Tick
returns-in-Tick g c = record {
  steps = λ first s is shown. steps-as c.in-Tick.is (in-memory first (steps.Tick c.in-Tick.seconds) s c.args.engine.now c.tick.new.self (Ok c.tick.result) (g.B.Bench.outside c.args.bench.now) (c.tick.ensures.steps first s is));
  shown = λ first s is shown. shown-as s (Ok c.tick.result) c.args.txns.now c.in-Tick.is (on-any (Ok c.tick.result) (shown-still s c.args.txns.now (steps.Tick c.in-Tick.seconds) (λ n. tt) c.steps_leave_other_sessions.ensures.others c.steps_leave_other_sessions.ensures.kept shown));
  spelled = λ kept first s is shown none. spelled-as s c.in-Tick.is (tick-spelled s c.in-Tick.seconds);
  count = refl;
}

pub unreachable-requires : goal.unreachable-requires
unreachable-requires g c = grind (arith, common_steps)
