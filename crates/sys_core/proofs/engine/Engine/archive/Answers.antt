use Rattle.std.proofs.Common.{◌≡◌, Err, rules, sym, ◌∙◌}
use Rattle.dl_base.specs.declared.answer.Answer.TheVariants as answers
use Rattle.dl_base.specs.declared.answer.Refusal.TheVariants as reasons
use Rattle.dl_base.specs.declared.fault.StepFault.TheVariants as faults
use Rattle.dl_base.specs.declared.step.Step.TheVariants as steps
use Rattle.sys_core.proofs.Stored.{not-awaited, refused-spelled}
use Rattle.sys_core.proofs.Commanding.{failed}
use Rattle.sys_core.proofs.Refused.{leaves-steps}
use Rattle.sys_core.proofs.Waiting.{awaited-is}
use Rattle.sys_owners.specs.Owned.{journals_of}
use Rattle.sys_core.proofs.engine.Engine.archive.Goals as goal

pub returns-in_err-copy : goal.returns-in_err-copy
returns-in_err-copy g c = record {
  steps = λ first s is.
      let w = c.args.self.now in
      let e : c.from_residual.result ≡ Err faults.Memory = search rules in
      failed first w s (steps.Archive c.args.link) (g.B.Bench.outside c.args.bench.now) is (c.calls_follow_one_another.ensures.none (journals_of w.owners) c.args.bench.now) c.from_residual.result e;
  spelled = λ kept first s is.
      let e : c.from_residual.result ≡ Err faults.Memory = search rules in
      absurd (kept e);
}

pub store_copy-requires-clause-stands : goal.store_copy-requires-clause-stands
store_copy-requires-clause-stands g c =
    let n = c.requires.stands in
    (n.0, n.1, c.args.link, n.2, sym (awaited-is n.0 c.args.self.now n.1 n.2 c.args.link) ∙ sym c.in_ok-copy.ensures ∙ c.in-Some.is)

pub returns-in-Some : goal.returns-in-Some
returns-in-Some g c = record {
  steps = λ first s is.
      c.store_copy.ensures.steps first s c.args.link is (sym (awaited-is first c.args.self.now s is c.args.link) ∙ sym c.in_ok-copy.ensures ∙ c.in-Some.is);
  spelled = λ kept first s is.
      c.store_copy.ensures.spelled kept first s c.args.link is (sym (awaited-is first c.args.self.now s is c.args.link) ∙ sym c.in_ok-copy.ensures ∙ c.in-Some.is);
}

pub returns-in-None : goal.returns-in-None
returns-in-None g c = record {
  steps = λ first s is.
      let w = c.args.self.now in
      leaves-steps first s (steps.Archive c.args.link) (answers.Refused (reasons.NotPending c.args.link))
      (not-awaited s c.args.link (sym (awaited-is first w s is c.args.link) ∙ sym c.in_ok-copy.ensures ∙ c.in-None.is)) w (g.B.Bench.outside c.args.bench.now) is
      (c.calls_follow_one_another.ensures.none (journals_of w.owners) c.args.bench.now);
  spelled = λ kept first s is.
      refused-spelled s c.args.link (sym (awaited-is first c.args.self.now s is c.args.link) ∙ sym c.in_ok-copy.ensures ∙ c.in-None.is);
}
