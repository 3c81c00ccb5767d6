use Rattle.std.proofs.Common.{◌≡◌, Result, Ok, Err, sym, ◌∙◌, ap, subst}
use Rattle.db_txn.specs.Transaction.{Transaction}
use Rattle.dl_base.specs.declared.answer.Answer.TheVariants as answers
use Rattle.dl_base.specs.declared.answer.Refusal.TheVariants as reasons
use Rattle.dl_base.specs.declared.fault.StepFault.{StepFault}
use Rattle.dl_base.specs.declared.fault.StepFault.TheVariants as faults
use Rattle.dl_base.specs.declared.step.Step.TheVariants as steps
use Rattle.meaning_system.specs.State.{moved_of}
use Rattle.meaning_system.specs.Writes.{prepared, writes}
use Rattle.sys_core.proofs.Knowing.{none-of}
use Rattle.sys_core.proofs.Preparing.{may-vote, refused-so, wrong-phase}
use Rattle.sys_core.proofs.Refused.{leaves-shown, leaves-steps, refused-none-prepare}
use Rattle.sys_core.proofs.Spelled.{err-as, nothing-spelled}
use Rattle.sys_core.proofs.Voted.{fault-steps, made-so, voted-shows, voted-steps, voted-writes}
use Rattle.sys_core.specs.Steps.{Shows}
use Rattle.sys_owners.specs.Owned.{journals_of}
use Rattle.sys_records.proofs.Spelled.{as-spelled}
use Rattle.sys_core.proofs.engine.Engine.prepare.Goals as goal

-- there is no transaction
pub returns-in_default-clause-steps : goal.returns-in_default-clause-steps
returns-in_default-clause-steps g c first s is has =
    let v = c.args.txn.now in
    let w = c.args.self.now in
    leaves-steps first s (steps.Prepare v.session) (answers.Refused reasons.NoTransaction) (refused-none-prepare s v.session (none-of s v has (sym c.in_default.ensures))) w (g.B.Bench.outside c.args.bench.now) is
    (c.calls_follow_one_another.ensures.none (journals_of w.owners) c.args.bench.now)

pub returns-in_default-clause-shows : goal.returns-in_default-clause-shows
returns-in_default-clause-shows g c first s is has =
    let v = c.args.txn.now in
    leaves-shown first s (steps.Prepare v.session) (answers.Refused reasons.NoTransaction) (refused-none-prepare s v.session (none-of s v has (sym c.in_default.ensures))) v has

-- it is not active
pub returns-in_default-phase : goal.returns-in_default-phase
returns-in_default-phase g c =
    let v = c.args.txn.now in
    let w = c.args.self.now in
    let p = c.phase.result in
    record {
      steps = λ first s is has. leaves-steps first s (steps.Prepare v.session) (answers.Refused (reasons.WrongPhase p))
          (wrong-phase first w s v c.in-Some.tx is has c.in-Some.ensures p c.phase.ensures c.in_default-phase.not-Active) w (g.B.Bench.outside c.args.bench.now) is
          (c.calls_follow_one_another.ensures.none (journals_of w.owners) c.args.bench.now);
      shows = λ first s is has. leaves-shown first s (steps.Prepare v.session) (answers.Refused (reasons.WrongPhase p))
          (wrong-phase first w s v c.in-Some.tx is has c.in-Some.ensures p c.phase.ensures c.in_default-phase.not-Active) v has;
      spelled = λ kept first s is has. nothing-spelled (writes s (steps.Prepare v.session)) (wrong-phase first w s v c.in-Some.tx is has c.in-Some.ensures p c.phase.ensures c.in_default-phase.not-Active).records;
      memory = λ e. absurd cc;
    }

-- the vote is refused
pub returns-in-Some-2-clause-steps : goal.returns-in-Some-2-clause-steps
returns-in-Some-2-clause-steps g c first s is has =
    let v = c.args.txn.now in
    let w = c.args.self.now in
    leaves-steps first s (steps.Prepare v.session) (answers.Refused c.in-Some-2.refusal)
    (refused-so first w s v c.in-Some.tx is has c.in-Some.ensures c.phase.result c.phase.ensures c.in-Active.is c.in_ok-refusal.field-0 (λ t at. c.in_ok-refusal.ensures first s t is at) c.in-Some-2.refusal c.in-Some-2.is)
    w (g.B.Bench.outside c.args.bench.now) is (c.calls_follow_one_another.ensures.none (journals_of w.owners) c.args.bench.now)

pub returns-in-Some-2-clause-shows : goal.returns-in-Some-2-clause-shows
returns-in-Some-2-clause-shows g c first s is has =
    let v = c.args.txn.now in
    let w = c.args.self.now in
    leaves-shown first s (steps.Prepare v.session) (answers.Refused c.in-Some-2.refusal)
    (refused-so first w s v c.in-Some.tx is has c.in-Some.ensures c.phase.result c.phase.ensures c.in-Active.is c.in_ok-refusal.field-0 (λ t at. c.in_ok-refusal.ensures first s t is at) c.in-Some-2.refusal c.in-Some-2.is) v has

-- it is voted for
pub vote-requires-clause-stands : goal.vote-requires-clause-stands
vote-requires-clause-stands g c =
    let n = c.requires.stands in
    let v = c.args.txn.now in
    let m = may-vote n.0 c.args.self.now n.1 v c.in-Some.tx n.2 n.3 c.in-Some.ensures c.phase.result c.phase.ensures c.in-Active.is c.in_ok-refusal.field-0 (λ t at. c.in_ok-refusal.ensures n.0 n.1 t n.2 at) c.in_default-2.is in
    (n.0, n.1, v.session, m.0, m.2, c.touched.ensures ∙ ap (λ (y : Transaction). y.named) c.in_ok-made.ensures.ok ∙ m.1.named, c.in_ok-made.ensures.value ∙ made-so n.1 v c.in-Some.tx m.0 m.1 m.2.active)

pub returns-in-Ok-clause-steps : goal.returns-in-Ok-clause-steps
returns-in-Ok-clause-steps g c first s is has =
    let O = g.B.Bench.outside in
    let v = c.args.txn.now in
    let w = c.args.self.now in
    let m = may-vote first w s v c.in-Some.tx is has c.in-Some.ensures c.phase.result c.phase.ensures c.in-Active.is c.in_ok-refusal.field-0 (λ t at. c.in_ok-refusal.ensures first s t is at) c.in_default-2.is in
    voted-steps first w c.vote.new.self s v.session c.in-Some.tx m.0 m.2 (O c.args.bench.now) (O c.vote.new.bench)
    (c.in-Ok.ensures.votes first s v.session m.0 m.2 (c.touched.ensures ∙ ap (λ (y : Transaction). y.named) c.in_ok-made.ensures.ok ∙ m.1.named) (c.in_ok-made.ensures.value ∙ made-so s v c.in-Some.tx m.0 m.1 m.2.active))

pub returns-in-Ok-clause-shows : goal.returns-in-Ok-clause-shows
returns-in-Ok-clause-shows g c first s is has =
    let v = c.args.txn.now in
    let w = c.args.self.now in
    let m = may-vote first w s v c.in-Some.tx is has c.in-Some.ensures c.phase.result c.phase.ensures c.in-Active.is c.in_ok-refusal.field-0 (λ t at. c.in_ok-refusal.ensures first s t is at) c.in_default-2.is in
    subst (λ (y : Transaction). Shows (steps.Prepare v.session) s v y (Ok answers.Done)) (sym c.in_ok-made.ensures.ok) (voted-shows s v c.in-Some.tx m.0 m.1 m.2.active m.2.passes)

pub returns-in-Err-clause-steps : goal.returns-in-Err-clause-steps
returns-in-Err-clause-steps g c first s is has =
    let O = g.B.Bench.outside in
    let v = c.args.txn.now in
    let w = c.args.self.now in
    let m = may-vote first w s v c.in-Some.tx is has c.in-Some.ensures c.phase.result c.phase.ensures c.in-Active.is c.in_ok-refusal.field-0 (λ t at. c.in_ok-refusal.ensures first s t is at) c.in_default-2.is in
    fault-steps first w c.vote.new.self s v.session c.in-Some.tx m.0 m.2 (O c.args.bench.now) (O c.vote.new.bench) c.in-Err.fault
    (c.in-Err.ensures.votes first s v.session m.0 m.2 (c.touched.ensures ∙ ap (λ (y : Transaction). y.named) c.in_ok-made.ensures.ok ∙ m.1.named) (c.in_ok-made.ensures.value ∙ made-so s v c.in-Some.tx m.0 m.1 m.2.active))

-- THE RECORD HAS A SPELLING, or there is none

pub returns-in_default-clause-spelled : goal.returns-in_default-clause-spelled
returns-in_default-clause-spelled g c kept first s is has =
    let v = c.args.txn.now in
    nothing-spelled (writes s (steps.Prepare v.session)) (refused-none-prepare s v.session (none-of s v has (sym c.in_default.ensures))).records

pub returns-in-Some-2-clause-spelled : goal.returns-in-Some-2-clause-spelled
returns-in-Some-2-clause-spelled g c kept first s is has =
    let v = c.args.txn.now in
    let w = c.args.self.now in
    nothing-spelled (writes s (steps.Prepare v.session))
    (refused-so first w s v c.in-Some.tx is has c.in-Some.ensures c.phase.result c.phase.ensures c.in-Active.is c.in_ok-refusal.field-0 (λ t at. c.in_ok-refusal.ensures first s t is at) c.in-Some-2.refusal c.in-Some-2.is).records

pub returns-in-Ok-clause-spelled : goal.returns-in-Ok-clause-spelled
returns-in-Ok-clause-spelled g c kept first s is has =
    let v = c.args.txn.now in
    let w = c.args.self.now in
    let tx = c.in-Some.tx in
    let m = may-vote first w s v tx is has c.in-Some.ensures c.phase.result c.phase.ensures c.in-Active.is c.in_ok-refusal.field-0 (λ t at. c.in_ok-refusal.ensures first s t is at) c.in_default-2.is in
    as-spelled (writes s (steps.Prepare v.session)) (prepared tx (moved_of m.0)) (voted-writes s v.session tx m.0 m.2.txn m.2.active m.2.passes) (c.in-Ok.ensures.spelled never first s v.session m.0 m.2)
  where
    never : ◌≡◌ {A = Result Unit StepFault} (Ok tt) (Err faults.Memory) → ⊥
    never e = cc

pub returns-in-Err-clause-spelled : goal.returns-in-Err-clause-spelled
returns-in-Err-clause-spelled g c kept first s is has =
    let v = c.args.txn.now in
    let w = c.args.self.now in
    let tx = c.in-Some.tx in
    let m = may-vote first w s v tx is has c.in-Some.ensures c.phase.result c.phase.ensures c.in-Active.is c.in_ok-refusal.field-0 (λ t at. c.in_ok-refusal.ensures first s t is at) c.in_default-2.is in
    as-spelled (writes s (steps.Prepare v.session)) (prepared tx (moved_of m.0)) (voted-writes s v.session tx m.0 m.2.txn m.2.active m.2.passes)
    (c.in-Err.ensures.spelled (λ e. kept (err-as c.in-Err.fault faults.Memory e)) first s v.session m.0 m.2)

-- want of memory comes of an active transaction

pub returns-in-Err-clause-memory : goal.returns-in-Err-clause-memory
returns-in-Err-clause-memory g c e = (c.in-Some.tx, sym c.in-Some.ensures, sym c.phase.ensures ∙ c.in-Active.is)
