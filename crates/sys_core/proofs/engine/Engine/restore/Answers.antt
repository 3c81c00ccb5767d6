use Rattle.std.proofs.Common.{◌≡◌, Err, rules, ◌∙◌, subst}
use Rattle.bk_restore.specs.Planning.{IsPlanned}
use Rattle.bk_restore.specs.declared.planning.Planned.{Planned}
use Rattle.dl_base.specs.declared.answer.Answer.TheVariants as answers
use Rattle.dl_base.specs.declared.answer.Refusal.TheVariants as reasons
use Rattle.dl_base.specs.declared.fault.StepFault.TheVariants as faults
use Rattle.dl_base.specs.declared.step.Step.TheVariants as steps
use Rattle.sys_core.proofs.Commanding.{failed}
use Rattle.sys_core.proofs.Refused.{leaves-steps}
use Rattle.sys_core.proofs.Restored.{busy-refused, plan-refused, refused-spelled}
use Rattle.sys_owners.specs.Owned.{journals_of}
use Rattle.sys_core.proofs.engine.Engine.restore.Goals as goal

-- a session has a transaction
pub returns-in-Some : goal.returns-in-Some
returns-in-Some g c = record {
  steps = λ first s is busy.
      let w = c.args.self.now in
      leaves-steps first s (steps.Restore c.args.target) (answers.Refused (reasons.SessionBusy c.in-Some.session)) (busy-refused s c.args.target c.in-Some.session (busy ∙ c.in-Some.is)) w (g.B.Bench.outside c.args.bench.now) is
      (c.calls_follow_one_another.ensures.none (journals_of w.owners) c.args.bench.now);
  spelled = λ kept first s is busy left. refused-spelled s c.args.target (reasons.SessionBusy c.in-Some.session) (busy-refused s c.args.target c.in-Some.session (busy ∙ c.in-Some.is));
  memory = λ e. absurd cc;
}

-- there is no memory for a plan
pub returns-in_err-refusal : goal.returns-in_err-refusal
returns-in_err-refusal g c = record {
  steps = λ first s is busy.
      let w = c.args.self.now in
      let e : c.from_residual.result ≡ Err faults.Memory = search rules in
      failed first w s (steps.Restore c.args.target) (g.B.Bench.outside c.args.bench.now) is (c.calls_follow_one_another.ensures.none (journals_of w.owners) c.args.bench.now) c.from_residual.result e;
  spelled = λ kept first s is busy left.
      let e : c.from_residual.result ≡ Err faults.Memory = search rules in
      absurd (kept e);
  memory = λ e. c.in_default.is;
}

-- it is refused
pub returns-in-Refused-clause-steps : goal.returns-in-Refused-clause-steps
returns-in-Refused-clause-steps g c first s is busy =
    let w = c.args.self.now in
    let plan = subst (λ (x : Planned). IsPlanned s c.args.target x) c.in-Refused.is (c.in_ok-refusal.ensures first s is) in
    leaves-steps first s (steps.Restore c.args.target) (answers.Refused c.in-Refused.refusal) (plan-refused s c.args.target c.in-Refused.refusal (busy ∙ c.in_default.is) plan) w (g.B.Bench.outside c.args.bench.now) is
    (c.calls_follow_one_another.ensures.none (journals_of w.owners) c.args.bench.now)

pub returns-in-Refused-clause-spelled : goal.returns-in-Refused-clause-spelled
returns-in-Refused-clause-spelled g c kept first s is busy left =
    let plan = subst (λ (x : Planned). IsPlanned s c.args.target x) c.in-Refused.is (c.in_ok-refusal.ensures first s is) in
    refused-spelled s c.args.target c.in-Refused.refusal (plan-refused s c.args.target c.in-Refused.refusal (busy ∙ c.in_default.is) plan)

-- it is let through
pub restore_by-requires-clause-stands : goal.restore_by-requires-clause-stands
restore_by-requires-clause-stands g c =
    let n = c.requires.stands in
    let plan = subst (λ (x : Planned). IsPlanned n.1 c.args.target x) c.in-Ready.is (c.in_ok-refusal.ensures n.0 n.1 n.2) in
    (n.0, n.1, c.args.target, record { state = n.2; idle = n.3 ∙ c.in_default.is; plan = plan })

pub returns-in-Ready-clause-steps : goal.returns-in-Ready-clause-steps
returns-in-Ready-clause-steps g c first s is busy =
    let plan = subst (λ (x : Planned). IsPlanned s c.args.target x) c.in-Ready.is (c.in_ok-refusal.ensures first s is) in
    c.restore_by.ensures.steps first s c.args.target (record { state = is; idle = busy ∙ c.in_default.is; plan = plan })

pub returns-in-Ready-clause-spelled : goal.returns-in-Ready-clause-spelled
returns-in-Ready-clause-spelled g c kept first s is busy left =
    let plan = subst (λ (x : Planned). IsPlanned s c.args.target x) c.in-Ready.is (c.in_ok-refusal.ensures first s is) in
    c.restore_by.ensures.spelled kept first s c.args.target (record { state = is; idle = busy ∙ c.in_default.is; plan = plan }) left

pub returns-in-Ready-clause-memory : goal.returns-in-Ready-clause-memory
returns-in-Ready-clause-memory g c e = c.in_default.is
