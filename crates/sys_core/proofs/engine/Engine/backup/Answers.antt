use Rattle.std.proofs.Common.{◌≡◌, Err, rules, sym, ◌∙◌}
use Rattle.dl_base.specs.declared.answer.Answer.TheVariants as answers
use Rattle.dl_base.specs.declared.answer.Refusal.TheVariants as reasons
use Rattle.dl_base.specs.declared.fault.StepFault.TheVariants as faults
use Rattle.dl_base.specs.declared.step.Step.TheVariants as steps
use Rattle.meaning_system.specs.Machine.{unfinished}
use Rattle.sys_core.proofs.BackingUp.{lets, none-found, pending-refused, refused-spelled, unfinished-is, unfinished-refused}
use Rattle.sys_core.proofs.Commanding.{failed}
use Rattle.sys_core.proofs.Refused.{leaves-steps}
use Rattle.sys_owners.specs.Owned.{journals_of}
use Rattle.sys_core.proofs.engine.Engine.backup.Goals as goal

-- some transaction is not finished
pub returns-in-Some : goal.returns-in-Some
returns-in-Some g c =
    let w = c.args.self.now in
    record {
      steps = λ first s is.
          leaves-steps first s steps.Backup (answers.Refused (reasons.Unfinished c.in-Some.tx)) (unfinished-refused s c.in-Some.tx (sym (unfinished-is s w.seats is.seats) ∙ sym c.in-Some.ensures)) w (g.B.Bench.outside c.args.bench.now) is
          (c.calls_follow_one_another.ensures.none (journals_of w.owners) c.args.bench.now);
      spelled = λ kept first s is. refused-spelled s (reasons.Unfinished c.in-Some.tx) (unfinished-refused s c.in-Some.tx (sym (unfinished-is s w.seats is.seats) ∙ sym c.in-Some.ensures));
      memory = λ e. absurd cc;
    }

-- memory
pub returns-in_err-link : goal.returns-in_err-link
returns-in_err-link g c = record {
  steps = λ first s is.
      let w = c.args.self.now in
      let e : c.from_residual.result ≡ Err faults.Memory = search rules in
      failed first w s steps.Backup (g.B.Bench.outside c.args.bench.now) is (c.calls_follow_one_another.ensures.none (journals_of w.owners) c.args.bench.now) c.from_residual.result e;
  spelled = λ kept first s is.
      let e : c.from_residual.result ≡ Err faults.Memory = search rules in
      absurd (kept e);
  memory = λ e first s is. none-found (unfinished s) (sym (unfinished-is s c.args.self.now.seats is.seats) ∙ sym c.unfinished.ensures ∙ c.in_default.is);
}

-- a copy is pending
pub returns-in-Some-2 : goal.returns-in-Some-2
returns-in-Some-2 g c =
    let w = c.args.self.now in
    record {
      steps = λ first s is.
          leaves-steps first s steps.Backup (answers.Refused (reasons.ArchivePending c.in-Some-2.link))
          (pending-refused s c.in-Some-2.link (sym (unfinished-is s w.seats is.seats) ∙ sym c.unfinished.ensures ∙ c.in_default.is) (sym (c.in_ok-link.ensures first s is) ∙ c.in-Some-2.is)) w (g.B.Bench.outside c.args.bench.now) is
          (c.calls_follow_one_another.ensures.none (journals_of w.owners) c.args.bench.now);
      spelled = λ kept first s is.
          refused-spelled s (reasons.ArchivePending c.in-Some-2.link)
          (pending-refused s c.in-Some-2.link (sym (unfinished-is s w.seats is.seats) ∙ sym c.unfinished.ensures ∙ c.in_default.is) (sym (c.in_ok-link.ensures first s is) ∙ c.in-Some-2.is));
      memory = λ e. absurd cc;
    }

-- nothing refuses it
pub back_up-requires-clause-stands : goal.back_up-requires-clause-stands
back_up-requires-clause-stands g c =
    let n = c.requires.stands in
    let w = c.args.self.now in
    let free = lets n.1 (sym (unfinished-is n.1 w.seats n.2.seats) ∙ sym c.unfinished.ensures ∙ c.in_default.is) (sym (c.in_ok-link.ensures n.0 n.1 n.2) ∙ c.in_default-2.is) in
    (n.0, n.1, n.2, free.0, free.1)

pub returns : goal.returns
returns g c =
    let w = c.args.self.now in
    record {
      steps = λ first s is.
          let free = lets s (sym (unfinished-is s w.seats is.seats) ∙ sym c.unfinished.ensures ∙ c.in_default.is) (sym (c.in_ok-link.ensures first s is) ∙ c.in_default-2.is) in
          c.back_up.ensures.steps first s is free.0 free.1;
      spelled = λ kept first s is.
          let free = lets s (sym (unfinished-is s w.seats is.seats) ∙ sym c.unfinished.ensures ∙ c.in_default.is) (sym (c.in_ok-link.ensures first s is) ∙ c.in_default-2.is) in
          c.back_up.ensures.spelled kept first s is free.0 free.1;
      memory = λ e first s is. none-found (unfinished s) (sym (unfinished-is s w.seats is.seats) ∙ sym c.unfinished.ensures ∙ c.in_default.is);
    }
