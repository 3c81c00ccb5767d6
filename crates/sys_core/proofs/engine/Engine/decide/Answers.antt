use Rattle.std.proofs.Common.{sym, ◌∙◌}
use Rattle.dl_base.specs.declared.answer.Answer.TheVariants as answers
use Rattle.dl_base.specs.declared.answer.Refusal.TheVariants as reasons
use Rattle.dl_base.specs.declared.step.Step.TheVariants as steps
use Rattle.meaning_system.specs.Writes.{writes}
use Rattle.sys_core.proofs.Knowing.{none-of, some-of}
use Rattle.sys_core.proofs.Refused.{leaves-shown, leaves-steps, refused-none-decide, refused-phase-decide}
use Rattle.sys_core.proofs.Seating.{seat-phase}
use Rattle.sys_core.proofs.Spelled.{nothing-spelled}
use Rattle.sys_owners.specs.Owned.{journals_of}
use Rattle.sys_core.proofs.engine.Engine.decide.Goals as goal

-- it has no transaction

pub returns-in_default-clause-steps : goal.returns-in_default-clause-steps
returns-in_default-clause-steps g c first s of has =
    let w = c.args.self.now in
    let v = c.args.txn.now in
    let none = none-of s v has (sym c.tx.ensures ∙ c.in_default.is) in
    leaves-steps first s (steps.Decide v.session) (answers.Refused reasons.NoTransaction) (refused-none-decide s v.session none) w (g.B.Bench.outside c.args.bench.now) of (c.calls_follow_one_another.ensures.none (journals_of w.owners) c.args.bench.now)

pub returns-in_default-clause-shows : goal.returns-in_default-clause-shows
returns-in_default-clause-shows g c first s of has =
    let v = c.args.txn.now in
    let none = none-of s v has (sym c.tx.ensures ∙ c.in_default.is) in
    leaves-shown first s (steps.Decide v.session) (answers.Refused reasons.NoTransaction) (refused-none-decide s v.session none) v has

-- it is not prepared
pub returns-in_default-phase : goal.returns-in_default-phase
returns-in_default-phase g c = record {
  steps = λ first s of has.
      let w = c.args.self.now in
      let v = c.args.txn.now in
      let know = some-of s v c.in-Some.tx has (sym c.tx.ensures ∙ c.in-Some.is) in
      let leaves = refused-phase-decide s v.session c.in-Some.tx know.0 know.1.of c.phase.result (sym (seat-phase s w.seats c.in-Some.tx know.0 of.seats know.1.there) ∙ sym c.phase.ensures) c.in_default-phase.not-Prepared in
      leaves-steps first s (steps.Decide v.session) (answers.Refused (reasons.WrongPhase c.phase.result)) leaves w (g.B.Bench.outside c.args.bench.now) of (c.calls_follow_one_another.ensures.none (journals_of w.owners) c.args.bench.now);
  shows = λ first s of has.
      let w = c.args.self.now in
      let v = c.args.txn.now in
      let know = some-of s v c.in-Some.tx has (sym c.tx.ensures ∙ c.in-Some.is) in
      let leaves = refused-phase-decide s v.session c.in-Some.tx know.0 know.1.of c.phase.result (sym (seat-phase s w.seats c.in-Some.tx know.0 of.seats know.1.there) ∙ sym c.phase.ensures) c.in_default-phase.not-Prepared in
      leaves-shown first s (steps.Decide v.session) (answers.Refused (reasons.WrongPhase c.phase.result)) leaves v has;
  spelled = λ first s of has.
      let w = c.args.self.now in
      let v = c.args.txn.now in
      let know = some-of s v c.in-Some.tx has (sym c.tx.ensures ∙ c.in-Some.is) in
      let leaves = refused-phase-decide s v.session c.in-Some.tx know.0 know.1.of c.phase.result (sym (seat-phase s w.seats c.in-Some.tx know.0 of.seats know.1.there) ∙ sym c.phase.ensures) c.in_default-phase.not-Prepared in
      nothing-spelled (writes s (steps.Decide v.session)) leaves.records;
}

pub returns-in_default-clause-spelled : goal.returns-in_default-clause-spelled
returns-in_default-clause-spelled g c first s of has =
    let v = c.args.txn.now in
    let none = none-of s v has (sym c.tx.ensures ∙ c.in_default.is) in
    nothing-spelled (writes s (steps.Decide v.session)) (refused-none-decide s v.session none).records
