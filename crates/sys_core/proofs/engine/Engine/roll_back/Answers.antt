use Rattle.std.proofs.Common.{◌≡◌, List, [], true, None, Some, is_some, sym, ◌∙◌, ap, subst}
use Rattle.dl_areas.specs.Writing.{Does}
use Rattle.dl_base.specs.declared.answer.Answer.TheVariants as answers
use Rattle.dl_base.specs.declared.answer.Refusal.TheVariants as reasons
use Rattle.dl_base.specs.declared.step.Phase.TheVariants as phases
use Rattle.dl_base.specs.declared.step.Step.TheVariants as steps
use Rattle.fm_manager.specs.Managed.{as_writes}
use Rattle.meaning_areas.specs.Lists.{Written, folds_on}
use Rattle.meaning_system.specs.State.{is_decided}
use Rattle.meaning_system.specs.Writes.{writes}
use Rattle.sys_core.proofs.Behind.{behind-taken, no-rollback}
use Rattle.sys_core.proofs.Knowing.{none-of, some-of}
use Rattle.sys_core.proofs.Refused.{leaves-shown, leaves-steps, refused-none-rollback, refused-phase-rollback}
use Rattle.sys_core.proofs.RollingBack.{aborts, aborts-taken, active-step, active-writes, beside-links, beside-self, prepared-step, prepared-writes, roll-back-fault, roll-back-kept, rolls-back, rolls-back-shown}
use Rattle.sys_core.proofs.Seating.{seat-phase}
use Rattle.sys_core.proofs.Spelled.{nothing-spelled}
use Rattle.sys_owners.specs.Owned.{folds_in, journals_of}
use Rattle.sys_records.proofs.Spelled.{as-spelled}
use Rattle.sys_core.proofs.engine.Engine.roll_back.Goals as goal

-- a session without a transaction
pub returns-in_default-clause-steps : goal.returns-in_default-clause-steps
returns-in_default-clause-steps g c first s is has =
    let O = g.B.Bench.outside in
    let w = c.args.self.now in
    let a = c.args.txn.now in
    leaves-steps first s (steps.Rollback a.session) (answers.Refused reasons.NoTransaction) (refused-none-rollback s a.session (none-of s a has (sym c.tx.ensures ∙ c.in_default.is))) w (O c.args.bench.now) is
    (c.calls_follow_one_another.ensures.none (journals_of w.owners) c.args.bench.now)

pub returns-in_default-clause-shows : goal.returns-in_default-clause-shows
returns-in_default-clause-shows g c first s is has =
    let a = c.args.txn.now in
    leaves-shown first s (steps.Rollback a.session) (answers.Refused reasons.NoTransaction) (refused-none-rollback s a.session (none-of s a has (sym c.tx.ensures ∙ c.in_default.is))) a has

-- one that is decided
pub returns-in_default-phase-clause-steps : goal.returns-in_default-phase-clause-steps
returns-in_default-phase-clause-steps g c first s is has =
    let O = g.B.Bench.outside in
    let w = c.args.self.now in
    let a = c.args.txn.now in
    let tx = c.in-Some.tx in
    let k = some-of s a tx has (sym c.in-Some.ensures) in
    let phase = sym (seat-phase s w.seats tx k.0 is.seats k.1.there) ∙ sym c.phase.ensures in
    leaves-steps first s (steps.Rollback a.session) (answers.Refused (reasons.WrongPhase c.phase.result)) (refused-phase-rollback s a.session tx k.0 k.1.of c.phase.result phase c.in_default-phase.not-Active c.in_default-phase.not-Prepared) w (O c.args.bench.now) is
    (c.calls_follow_one_another.ensures.none (journals_of w.owners) c.args.bench.now)

pub returns-in_default-phase-clause-shows : goal.returns-in_default-phase-clause-shows
returns-in_default-phase-clause-shows g c first s is has =
    let w = c.args.self.now in
    let a = c.args.txn.now in
    let tx = c.in-Some.tx in
    let k = some-of s a tx has (sym c.in-Some.ensures) in
    let phase = sym (seat-phase s w.seats tx k.0 is.seats k.1.there) ∙ sym c.phase.ensures in
    leaves-shown first s (steps.Rollback a.session) (answers.Refused (reasons.WrongPhase c.phase.result)) (refused-phase-rollback s a.session tx k.0 k.1.of c.phase.result phase c.in_default-phase.not-Active c.in_default-phase.not-Prepared) a has

-- one that is active: nothing is written
pub returns-in-Active-clause-steps : goal.returns-in-Active-clause-steps
returns-in-Active-clause-steps g c first s is has =
    let O = g.B.Bench.outside in
    let w = c.args.self.now in
    let a = c.args.txn.now in
    let tx = c.in-Some.tx in
    let k = some-of s a tx has (sym c.in-Some.ensures) in
    let phase : k.0.phase ≡ phases.Active = sym (seat-phase s w.seats tx k.0 is.seats k.1.there) ∙ sym c.in-Active.ensures in
    let none = active-writes s a.session tx k.0 k.1.of phase in
    rolls-back c.each_step_leads_on.ensures.kept c.claims_behind_steps_of_a_session.ensures.rollback c.seats_count_together.ensures.taken first w w c.end.new.self s a c.end.new.txn tx k.0 is k.1
    (active-step s a.session tx k.0 k.1.of phase) (ap is_decided phase) (beside-self w) (ap (folds_on (Some (folds_in w.owners))) none) c.end.ensures.claims c.end.ensures.same
    (O c.args.bench.now) (O c.args.bench.now)
    (subst (λ (xs : List Written). Does (journals_of w.owners) (journals_of w.owners) (as_writes xs) None (O c.args.bench.now) (O c.args.bench.now)) (sym none) (c.calls_follow_one_another.ensures.none (journals_of w.owners) c.args.bench.now))

pub returns-in-Active-clause-shows : goal.returns-in-Active-clause-shows
returns-in-Active-clause-shows g c first s is has =
    let w = c.args.self.now in
    let a = c.args.txn.now in
    let tx = c.in-Some.tx in
    let k = some-of s a tx has (sym c.in-Some.ensures) in
    let phase : k.0.phase ≡ phases.Active = sym (seat-phase s w.seats tx k.0 is.seats k.1.there) ∙ sym c.in-Active.ensures in
    let none = active-writes s a.session tx k.0 k.1.of phase in
    rolls-back-shown c.each_step_leads_on.ensures.kept c.claims_behind_steps_of_a_session.ensures.rollback c.seats_count_together.ensures.taken first w w c.end.new.self s a c.end.new.txn tx k.0 is k.1
    (active-step s a.session tx k.0 k.1.of phase) (ap is_decided phase) (beside-self w) (ap (folds_on (Some (folds_in w.owners))) none) c.end.ensures.claims c.end.ensures.same c.end.ensures.txn

-- one that is prepared: its record, if it has a branch
pub abort-requires-clause-taken : goal.abort-requires-clause-taken
abort-requires-clause-taken g c =
    let w = c.args.self.now in
    let a = c.args.txn.now in
    let tx = c.in-Some.tx in
    let first = c.requires.stands.0 in
    let s = c.requires.stands.1 in
    let is = c.requires.stands.2 in
    let k = some-of s a tx c.requires.stands.3 (sym c.in-Some.ensures) in
    let phase : k.0.phase ≡ phases.Prepared = sym (seat-phase s w.seats tx k.0 is.seats k.1.there) ∙ sym c.in-Prepared.ensures in
    let branch = c.has_branch-branch.result in
    let writes-are = prepared-writes s a.session tx k.0 k.1.of phase branch (c.has_branch-branch.ensures s k.0 is.seats k.1.there phase) in
    aborts-taken w branch tx
    (subst (λ (xs : List Written). is_some (folds_on (Some (folds_in w.owners)) xs) ≡ true) writes-are
    (behind-taken c.each_step_leads_on.ensures.kept first (folds_in w.owners) s (steps.Rollback a.session) is.sound is.few (no-rollback a.session)))

pub returns-in-Ok-clause-steps : goal.returns-in-Ok-clause-steps
returns-in-Ok-clause-steps g c first s is has =
    let O = g.B.Bench.outside in
    let w = c.args.self.now in
    let a = c.args.txn.now in
    let m = c.abort.new.self in
    let tx = c.in-Some.tx in
    let k = some-of s a tx has (sym c.in-Some.ensures) in
    let phase : k.0.phase ≡ phases.Prepared = sym (seat-phase s w.seats tx k.0 is.seats k.1.there) ∙ sym c.in-Prepared.ensures in
    let branch = c.has_branch-branch.result in
    let writes-are = prepared-writes s a.session tx k.0 k.1.of phase branch (c.has_branch-branch.ensures s k.0 is.seats k.1.there phase) in
    rolls-back c.each_step_leads_on.ensures.kept c.claims_behind_steps_of_a_session.ensures.rollback c.seats_count_together.ensures.taken first w m c.end-in-Ok.new.self s a c.end-in-Ok.new.txn tx k.0 is k.1
    (prepared-step s a.session tx k.0 k.1.of phase) (ap is_decided phase) (beside-links w m c.in-Ok.ensures.same) (ap (folds_on (Some (folds_in w.owners))) writes-are ∙ c.in-Ok.ensures.folds) c.end-in-Ok.ensures.claims c.end-in-Ok.ensures.same
    (O c.args.bench.now) (O c.abort.new.bench)
    (subst (λ (xs : List Written). Does (journals_of w.owners) (journals_of m.owners) (as_writes xs) None (O c.args.bench.now) (O c.abort.new.bench)) (sym writes-are) c.in-Ok.ensures.does)

pub returns-in-Ok-clause-shows : goal.returns-in-Ok-clause-shows
returns-in-Ok-clause-shows g c first s is has =
    let w = c.args.self.now in
    let a = c.args.txn.now in
    let m = c.abort.new.self in
    let tx = c.in-Some.tx in
    let k = some-of s a tx has (sym c.in-Some.ensures) in
    let phase : k.0.phase ≡ phases.Prepared = sym (seat-phase s w.seats tx k.0 is.seats k.1.there) ∙ sym c.in-Prepared.ensures in
    let branch = c.has_branch-branch.result in
    let writes-are = prepared-writes s a.session tx k.0 k.1.of phase branch (c.has_branch-branch.ensures s k.0 is.seats k.1.there phase) in
    rolls-back-shown c.each_step_leads_on.ensures.kept c.claims_behind_steps_of_a_session.ensures.rollback c.seats_count_together.ensures.taken first w m c.end-in-Ok.new.self s a c.end-in-Ok.new.txn tx k.0 is k.1
    (prepared-step s a.session tx k.0 k.1.of phase) (ap is_decided phase) (beside-links w m c.in-Ok.ensures.same) (ap (folds_on (Some (folds_in w.owners))) writes-are ∙ c.in-Ok.ensures.folds) c.end-in-Ok.ensures.claims c.end-in-Ok.ensures.same c.end-in-Ok.ensures.txn

-- which is not written
pub returns-in-Err-clause-steps : goal.returns-in-Err-clause-steps
returns-in-Err-clause-steps g c first s is has =
    let O = g.B.Bench.outside in
    let w = c.args.self.now in
    let a = c.args.txn.now in
    let m = c.abort.new.self in
    let tx = c.in-Some.tx in
    let k = some-of s a tx has (sym c.in-Some.ensures) in
    let phase : k.0.phase ≡ phases.Prepared = sym (seat-phase s w.seats tx k.0 is.seats k.1.there) ∙ sym c.in-Prepared.ensures in
    let branch = c.has_branch-branch.result in
    let writes-are = prepared-writes s a.session tx k.0 k.1.of phase branch (c.has_branch-branch.ensures s k.0 is.seats k.1.there phase) in
    roll-back-fault first s a.session w m c.in-Err.fault (O c.args.bench.now) (O c.abort.new.bench)
    (subst (λ (xs : List Written). Does (journals_of w.owners) (journals_of m.owners) (as_writes xs) (Some c.in-Err.fault) (O c.args.bench.now) (O c.abort.new.bench)) (sym writes-are) c.in-Err.ensures.does)

pub returns-in-Err-clause-shows : goal.returns-in-Err-clause-shows
returns-in-Err-clause-shows g c first s is has = roll-back-kept s c.args.txn.now.session c.args.txn.now c.in-Err.fault

-- THE RECORD HAS A SPELLING, or there is none

pub returns-in_default-clause-spelled : goal.returns-in_default-clause-spelled
returns-in_default-clause-spelled g c first s is has =
    let a = c.args.txn.now in
    nothing-spelled (writes s (steps.Rollback a.session)) (refused-none-rollback s a.session (none-of s a has (sym c.tx.ensures ∙ c.in_default.is))).records

pub returns-in_default-phase-clause-spelled : goal.returns-in_default-phase-clause-spelled
returns-in_default-phase-clause-spelled g c first s is has =
    let a = c.args.txn.now in
    let tx = c.in-Some.tx in
    let k = some-of s a tx has (sym c.in-Some.ensures) in
    let phase = sym (seat-phase s c.args.self.now.seats tx k.0 is.seats k.1.there) ∙ sym c.phase.ensures in
    nothing-spelled (writes s (steps.Rollback a.session)) (refused-phase-rollback s a.session tx k.0 k.1.of c.phase.result phase c.in_default-phase.not-Active c.in_default-phase.not-Prepared).records

pub returns-in-Active-clause-spelled : goal.returns-in-Active-clause-spelled
returns-in-Active-clause-spelled g c first s is has =
    let a = c.args.txn.now in
    let tx = c.in-Some.tx in
    let k = some-of s a tx has (sym c.in-Some.ensures) in
    let phase : k.0.phase ≡ phases.Active = sym (seat-phase s c.args.self.now.seats tx k.0 is.seats k.1.there) ∙ sym c.in-Active.ensures in
    as-spelled (writes s (steps.Rollback a.session)) [] (active-writes s a.session tx k.0 k.1.of phase) tt

pub returns-in-Ok-clause-spelled : goal.returns-in-Ok-clause-spelled
returns-in-Ok-clause-spelled g c first s is has =
    let a = c.args.txn.now in
    let tx = c.in-Some.tx in
    let k = some-of s a tx has (sym c.in-Some.ensures) in
    let phase : k.0.phase ≡ phases.Prepared = sym (seat-phase s c.args.self.now.seats tx k.0 is.seats k.1.there) ∙ sym c.in-Prepared.ensures in
    let branch = c.has_branch-branch.result in
    as-spelled (writes s (steps.Rollback a.session)) (aborts branch tx) (prepared-writes s a.session tx k.0 k.1.of phase branch (c.has_branch-branch.ensures s k.0 is.seats k.1.there phase)) c.in-Ok.ensures.spelled

pub returns-in-Err-clause-spelled : goal.returns-in-Err-clause-spelled
returns-in-Err-clause-spelled g c first s is has =
    let a = c.args.txn.now in
    let tx = c.in-Some.tx in
    let k = some-of s a tx has (sym c.in-Some.ensures) in
    let phase : k.0.phase ≡ phases.Prepared = sym (seat-phase s c.args.self.now.seats tx k.0 is.seats k.1.there) ∙ sym c.in-Prepared.ensures in
    let branch = c.has_branch-branch.result in
    as-spelled (writes s (steps.Rollback a.session)) (aborts branch tx) (prepared-writes s a.session tx k.0 k.1.of phase branch (c.has_branch-branch.ensures s k.0 is.seats k.1.there phase)) c.in-Err.ensures.spelled
