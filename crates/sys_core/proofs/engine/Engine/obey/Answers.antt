use Rattle.std.proofs.Common.{◌≡◌, Result, Ok, Err, refl, rules, ap, sym, subst, ◌∙◌}
use Rattle.dl_base.specs.declared.answer.Answer.{Answer}
use Rattle.dl_base.specs.declared.fault.StepFault.{StepFault}
use Rattle.dl_base.specs.declared.fault.StepFault.TheVariants as faults
use Rattle.dl_base.specs.declared.step.Step.TheVariants as steps
use Rattle.meaning_files.specs.Commands.{command_changes}
use Rattle.meaning_files.specs.Files.{Files}
use Rattle.sys_core.proofs.Commanding.{Laws, behind_call, done, failed, looked-changes, manager-accepts, read, stopped, writing}
use Rattle.sys_core.proofs.Spelled.{command-spelled, err-as, read-spelled}
use Rattle.sys_core.specs.Steps.{Steps}
use Rattle.sys_owners.proofs.Placing.{manager-open}
use Rattle.sys_owners.specs.Owned.{journals_of}
use Rattle.sys_core.proofs.engine.Engine.obey.Goals as goal

pub returns-in-Err-clause-steps : goal.returns-in-Err-clause-steps
returns-in-Err-clause-steps g c first s is e =
    let O = g.B.Bench.outside in
    let w = c.args.self.now in
    failed first w s (steps.File c.args.cmd) (O c.args.bench.now) is (c.calls_follow_one_another.ensures.none (journals_of w.owners) c.args.bench.now) (Err faults.Memory) refl

pub returns-in-Ok-Some-clause-steps : goal.returns-in-Ok-Some-clause-steps
returns-in-Ok-Some-clause-steps g c first s is e =
    let O = g.B.Bench.outside in
    let w = c.args.self.now in
    read first w s is c.args.cmd e (O c.args.bench.now) (c.calls_follow_one_another.ensures.none (journals_of w.owners) c.args.bench.now) c.in-Ok-Some.answer (sym c.in-Ok-Some.ensures ∙ c.in-Ok-Some.field-0-is)

pub apply-requires-clause-ready : goal.apply-requires-clause-ready
apply-requires-clause-ready g c = manager-open c.args.self.now.owners (g.B.Bench.outside c.args.bench.now) c.requires.ready

pub apply-requires-clause-accepted : goal.apply-requires-clause-accepted
apply-requires-clause-accepted g c = let a = c.requires.accepted in manager-accepts a.0 c.args.self.now a.1 a.2 c.args.cmd a.3

pub apply-requires-clause-writing : goal.apply-requires-clause-writing
apply-requires-clause-writing g c = writing c.args.self.now.owners.manager.files.files c.args.cmd.what (sym c.in-Ok-None.ensures ∙ c.in-Ok-None.field-0-is)

pub returns-in_err-apply-in-Ok-None-clause-steps : goal.returns-in_err-apply-in-Ok-None-clause-steps
returns-in_err-apply-in-Ok-None-clause-steps g c first s is e =
    let O = g.B.Bench.outside in
    let w = c.args.self.now in
    let m = c.apply.new.self in
    let fault = c.in_err-apply-in-Ok-None.field-0.0 in
    let r : c.from_residual.result ≡ Err fault = search rules in
    subst (λ (q : Result Answer StepFault). Steps first (steps.File c.args.cmd) s w (behind_call first w s is c.args.cmd e m (O c.args.bench.now) (O c.apply.new.bench) c.requires.ready) q (O c.args.bench.now) (O c.apply.new.bench)) (sym r)
    (stopped first w s is c.args.cmd e m (O c.args.bench.now) (O c.apply.new.bench) c.requires.ready fault c.in_err-apply-in-Ok-None.ensures.err c.in_err-apply-in-Ok-None.ensures.ends)

pub returns-in_ok-apply-in-Ok-None-clause-steps : goal.returns-in_ok-apply-in-Ok-None-clause-steps
returns-in_ok-apply-in-Ok-None-clause-steps g c first s is e =
    let O = g.B.Bench.outside in
    let w = c.args.self.now in
    let laws : Laws = record { leads = c.each_step_leads_on.ensures.kept; taken = c.commands_and_backups_are_taken.ensures.commands; claims = c.claims_behind_other_steps.ensures.file; pieces = c.pieces_stay_what_they_are.ensures } in
    done first w s is c.args.cmd e c.apply.new.self (O c.args.bench.now) (O c.apply.new.bench) c.requires.ready laws (sym c.in-Ok-None.ensures ∙ c.in-Ok-None.field-0-is) c.in_ok-apply-in-Ok-None.ensures.files c.in_ok-apply-in-Ok-None.ensures.same c.in_ok-apply-in-Ok-None.ensures.ends

-- ITS RECORD HAS A SPELLING, or there is none

pub returns-in-Err-clause-spelled : goal.returns-in-Err-clause-spelled
returns-in-Err-clause-spelled g c kept = absurd (kept refl)

pub returns-in-Ok-Some-clause-spelled : goal.returns-in-Ok-Some-clause-spelled
returns-in-Ok-Some-clause-spelled g c kept first s is e =
    read-spelled s c.args.cmd (looked-changes c.args.self.now.owners.manager.files.files s.files c.args.cmd.user c.args.cmd.what c.in-Ok-Some.answer (sym c.in-Ok-Some.ensures ∙ c.in-Ok-Some.field-0-is))

pub returns-in_err-apply-in-Ok-None-clause-spelled : goal.returns-in_err-apply-in-Ok-None-clause-spelled
returns-in_err-apply-in-Ok-None-clause-spelled g c kept first s is e =
    let w = c.args.self.now in
    let fault = c.in_err-apply-in-Ok-None.field-0.0 in
    let r : c.from_residual.result ≡ Err fault = search rules in
    command-spelled s c.args.cmd (command_changes w.owners.manager.files.files c.args.cmd.user c.args.cmd.what) (ap (λ (x : Files). command_changes x c.args.cmd.user c.args.cmd.what) is.sound.follows.joint.files)
    (c.in_err-apply-in-Ok-None.ensures.spelled (λ n. kept (r ∙ err-as fault faults.Memory n)))

pub returns-in_ok-apply-in-Ok-None-clause-spelled : goal.returns-in_ok-apply-in-Ok-None-clause-spelled
returns-in_ok-apply-in-Ok-None-clause-spelled g c kept first s is e =
    let w = c.args.self.now in
    command-spelled s c.args.cmd (command_changes w.owners.manager.files.files c.args.cmd.user c.args.cmd.what) (ap (λ (x : Files). command_changes x c.args.cmd.user c.args.cmd.what) is.sound.follows.joint.files)
    (c.in_ok-apply-in-Ok-None.ensures.spelled never)
  where
    never : ◌≡◌ {A = Result Unit StepFault} (Ok tt) (Err faults.Memory) → ⊥
    never n = cc
