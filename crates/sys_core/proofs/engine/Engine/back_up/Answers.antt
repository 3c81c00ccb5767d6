use Rattle.std.proofs.Common.{◌≡◌, Result, Ok, Err, rules, ◌∙◌}
use Rattle.dl_base.specs.declared.area.Area.TheVariants.{Backups}
use Rattle.dl_base.specs.declared.fault.StepFault.{StepFault}
use Rattle.dl_base.specs.declared.fault.StepFault.TheVariants as faults
use Rattle.dl_base.specs.declared.step.Step.TheVariants as steps
use Rattle.sys_core.proofs.BackingUp.{Laws, backs-up, backup-spelled, not-backed-up}
use Rattle.sys_core.proofs.Commanding.{failed}
use Rattle.sys_core.proofs.Spelled.{err-as}
use Rattle.sys_owners.specs.Owned.{journals_of}
use Rattle.sys_core.proofs.engine.Engine.back_up.Goals as goal

pub returns-in_err-tables : goal.returns-in_err-tables
returns-in_err-tables g c = record {
  steps = λ first s is none nothing.
      let w = c.args.self.now in
      let e : c.from_residual.result ≡ Err faults.Memory = search rules in
      failed first w s steps.Backup (g.B.Bench.outside c.args.bench.now) is (c.calls_follow_one_another.ensures.none (journals_of w.owners) c.args.bench.now) c.from_residual.result e;
  spelled = λ kept first s is none nothing.
      let e : c.from_residual.result ≡ Err faults.Memory = search rules in
      absurd (kept e);
}

pub store-requires : goal.store-requires
store-requires g c = c.requires.ready.gates Backups

pub returns-in-Ok : goal.returns-in-Ok
returns-in-Ok g c =
    let O = g.B.Bench.outside in
    let w = c.args.self.now in
    let laws : Laws = record { leads = c.each_step_leads_on.ensures.kept; claims = c.claims_behind_other_steps.ensures.backup; pieces = c.pieces_stay_what_they_are.ensures } in
    let e = c.in-Ok.ensures in
    record {
      steps = λ first s is none nothing.
          backs-up laws first w s is none nothing c.in_ok-tables.tables (c.in_ok-tables.ensures ∙ c.committed.ensures.tables) c.commits-commit.result c.commits-commit.ensures
          c.store.new.self (O c.args.bench.now) (O c.store.new.bench) c.requires.ready e.taken c.in-Ok.number e.value e.does;
      spelled = λ kept first s is none nothing.
          backup-spelled laws first w s is none nothing c.in_ok-tables.tables (c.in_ok-tables.ensures ∙ c.committed.ensures.tables) c.commits-commit.result c.commits-commit.ensures (e.spelled (never c.in-Ok.number));
    }
  where
    never : {T : Type 0} (x : T) → ◌≡◌ {A = Result T StepFault} (Ok x) (Err faults.Memory) → ⊥
    never x n = cc

pub returns-in-Err : goal.returns-in-Err
returns-in-Err g c =
    let O = g.B.Bench.outside in
    let w = c.args.self.now in
    let laws : Laws = record { leads = c.each_step_leads_on.ensures.kept; claims = c.claims_behind_other_steps.ensures.backup; pieces = c.pieces_stay_what_they_are.ensures } in
    let e = c.in-Err.ensures in
    record {
      steps = λ first s is none nothing.
          not-backed-up laws first w s is none nothing c.in_ok-tables.tables (c.in_ok-tables.ensures ∙ c.committed.ensures.tables) c.commits-commit.result c.commits-commit.ensures
          c.store.new.self (O c.args.bench.now) (O c.store.new.bench) c.requires.ready c.in-Err.fault e.err e.does;
      spelled = λ kept first s is none nothing.
          backup-spelled laws first w s is none nothing c.in_ok-tables.tables (c.in_ok-tables.ensures ∙ c.committed.ensures.tables) c.commits-commit.result c.commits-commit.ensures
          (e.spelled (λ n. kept (err-as c.in-Err.fault faults.Memory n)));
    }
