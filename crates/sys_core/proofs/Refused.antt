-- STEPS THAT ARE REFUSED write nothing, and leave all as it was: those of a session without a transaction, and those on one that is
-- not as far as they ask.
use Rattle.std.proofs.Common.{◌≡◌, ◌≢◌, ℕ, List, [], Option, Some, None, Result, Ok, Err, refl, sym, ◌∙◌, ap, subst}
use Rattle.db_txn.specs.Transaction.{Transaction}
use Rattle.dl_areas.specs.Lists.{Write}
use Rattle.dl_areas.specs.Writing.{Does}
use Rattle.dl_base.specs.Outside.{Outside}
use Rattle.dl_base.specs.declared.answer.Answer.{Answer}
use Rattle.dl_base.specs.declared.answer.Answer.TheVariants as answers
use Rattle.dl_base.specs.declared.answer.Refusal.{Refusal}
use Rattle.dl_base.specs.declared.answer.Refusal.TheVariants as reasons
use Rattle.dl_base.specs.declared.statement.Stmt.{Stmt}
use Rattle.dl_base.specs.declared.step.Phase.{Phase}
use Rattle.dl_base.specs.declared.step.Phase.TheVariants as phases
use Rattle.dl_base.specs.declared.step.Step.{Step}
use Rattle.dl_base.specs.declared.step.Step.TheVariants as steps
use Rattle.fm_manager.specs.Managed.{as_writes}
use Rattle.meaning_system.specs.Machine.{on_session, on_txn, step}
use Rattle.meaning_system.specs.State.{State, Txn, txn_of}
use Rattle.meaning_system.specs.Writes.{session_writes, txn_writes, writes}
use Rattle.sys_core.specs.Seated.{HasTxn, shown_by}
use Rattle.sys_core.specs.Standing.{IsOf}
use Rattle.sys_core.specs.Steps.{Shows, Steps, StepsInMemory, records_of}
use Rattle.sys_core.specs.declared.engine.Engine.{Engine}
use Rattle.sys_owners.specs.Owned.{journals_of}

-- THE MACHINE ANSWERS THIS, and nothing changes or is written
pub record Leaves (s : State) (x : Step) (answer : Answer) : Type 0 where
  pub is : step s x ≡ (answer, s)
  pub records : records_of s x ≡ []

-- it is refused
abbrev pub IsRefused : State → Step → Refusal → Type 0
IsRefused s x why = Leaves s x (answers.Refused why)

ok_err : {T E : Type 0} (x : T) (e : E) → ◌≡◌ {A = Result T E} (Ok x) (Err e) → ⊥
ok_err x e is = cc

module _ (first : ℕ) (s : State) (x : Step) (answer : Answer) (leaves : Leaves s x answer) where
  abbrev same-state : (step s x).1 ≡ s
  same-state = ap (λ (e : Answer × State). e.1) leaves.is

  -- over an engine that is the same: one that touches areas, one that touches none, and the object of the session
  pub leaves-steps : (w : Engine) (o : Outside) → IsOf first w s → Does (journals_of w.owners) (journals_of w.owners) [] None o o → Steps first x s w w (Ok answer) o o
  leaves-steps w o is none = record {
    answers = record { answer = sym (ap (λ (e : Answer × State). e.0) leaves.is); state = subst (λ (t : State). IsOf first w t) (sym same-state) is };
    memory = λ e. is;
    ends = subst (λ (ws : List Write). Does (journals_of w.owners) (journals_of w.owners) ws None o o) (sym leaves.records) none;
  }

  pub leaves-in-memory : (w : Engine) → IsOf first w s → StepsInMemory first x s w w (Ok answer)
  leaves-in-memory w is = record {
    answers = record { answer = sym (ap (λ (e : Answer × State). e.0) leaves.is); state = subst (λ (t : State). IsOf first w t) (sym same-state) is };
    memory = λ e. is;
    journals = refl;
    fits = leaves.records;
    full = λ f e. absurd (ok_err answer _ e);
    no_device = λ e. ok_err answer _ e;
  }

  pub leaves-shown : (v : Transaction) → HasTxn s v → Shows x s v v (Ok answer)
  leaves-shown v has = record {
    shown = has ∙ ap (λ (t : State). shown_by v.session (txn_of t v.session)) (sym same-state);
    memory = λ e. refl;
  }

-- A SESSION WITHOUT A TRANSACTION

module _ (s : State) (session : ℕ) (none : txn_of s session ≡ None) where
  -- the records are none, whatever is answered
  none-writes : (x : Step) → as_writes (session_writes s x (step s x).0 (txn_of s session)) ≡ []
  none-writes x = ap (λ (o : Option (ℕ × Txn)). as_writes (session_writes s x (step s x).0 o)) none

  pub refused-none-statement : (stmt : Stmt) → IsRefused s (steps.Statement session stmt) reasons.NoTransaction
  unfolding step writes
  refused-none-statement stmt = record { is = ap (on_session s (steps.Statement session stmt)) none; records = refl }

  pub refused-none-prepare : IsRefused s (steps.Prepare session) reasons.NoTransaction
  unfolding step writes
  refused-none-prepare = record { is = ap (on_session s (steps.Prepare session)) none; records = none-writes (steps.Prepare session) }

  pub refused-none-decide : IsRefused s (steps.Decide session) reasons.NoTransaction
  unfolding step writes
  refused-none-decide = record { is = ap (on_session s (steps.Decide session)) none; records = none-writes (steps.Decide session) }

  pub refused-none-finish : IsRefused s (steps.Finish session) reasons.NoTransaction
  unfolding step writes
  refused-none-finish = record { is = ap (on_session s (steps.Finish session)) none; records = none-writes (steps.Finish session) }

  pub refused-none-rollback : IsRefused s (steps.Rollback session) reasons.NoTransaction
  unfolding step writes
  refused-none-rollback = record { is = ap (on_session s (steps.Rollback session)) none; records = none-writes (steps.Rollback session) }

-- ONE THAT IS NOT AS FAR

module _ (s : State) (session tx : ℕ) (t : Txn) (of : txn_of s session ≡ Some (tx, t)) where
  -- what a step on it answers, and what it writes, by its phase
  on-it : (x : Step) (p : Phase) → t.phase ≡ p → on_session s x (txn_of s session) ≡ on_txn s x tx t p
  on-it x p at = ap (on_session s x) of ∙ ap (on_txn s x tx t) at

  writes-it : (x : Step) (p : Phase) → t.phase ≡ p → as_writes (session_writes s x (step s x).0 (txn_of s session)) ≡ as_writes (txn_writes s x tx t p (step s x).0)
  writes-it x p at = ap (λ (o : Option (ℕ × Txn)). as_writes (session_writes s x (step s x).0 o)) of ∙ ap (λ (q : Phase). as_writes (txn_writes s x tx t q (step s x).0)) at

  pub refused-phase-statement : (stmt : Stmt) (p : Phase) → t.phase ≡ p → p ≢ phases.Active → IsRefused s (steps.Statement session stmt) (reasons.WrongPhase p)
  unfolding step writes
  refused-phase-statement stmt p at other = record { is = on-it (steps.Statement session stmt) p at ∙ by p other; records = refl }
    where
      by : (p : Phase) → p ≢ phases.Active → on_txn s (steps.Statement session stmt) tx t p ≡ (answers.Refused (reasons.WrongPhase p), s)
      by phases.Active ne = absurd (ne refl)
      by phases.Prepared ne = refl
      by phases.Decided ne = refl
      by phases.Finished ne = refl
      by phases.Dropped ne = refl

  pub refused-phase-prepare : (p : Phase) → t.phase ≡ p → p ≢ phases.Active → IsRefused s (steps.Prepare session) (reasons.WrongPhase p)
  unfolding step writes
  refused-phase-prepare p at other = record { is = on-it (steps.Prepare session) p at ∙ by p other; records = writes-it (steps.Prepare session) p at ∙ ap as_writes (nothing p other) }
    where
      by : (p : Phase) → p ≢ phases.Active → on_txn s (steps.Prepare session) tx t p ≡ (answers.Refused (reasons.WrongPhase p), s)
      by phases.Active ne = absurd (ne refl)
      by phases.Prepared ne = refl
      by phases.Decided ne = refl
      by phases.Finished ne = refl
      by phases.Dropped ne = refl

      nothing : (p : Phase) → p ≢ phases.Active → txn_writes s (steps.Prepare session) tx t p (step s (steps.Prepare session)).0 ≡ []
      nothing phases.Active ne = absurd (ne refl)
      nothing phases.Prepared ne = refl
      nothing phases.Decided ne = refl
      nothing phases.Finished ne = refl
      nothing phases.Dropped ne = refl

  pub refused-phase-decide : (p : Phase) → t.phase ≡ p → p ≢ phases.Prepared → IsRefused s (steps.Decide session) (reasons.WrongPhase p)
  unfolding step writes
  refused-phase-decide p at other = record { is = on-it (steps.Decide session) p at ∙ by p other; records = writes-it (steps.Decide session) p at ∙ ap as_writes (nothing p other) }
    where
      by : (p : Phase) → p ≢ phases.Prepared → on_txn s (steps.Decide session) tx t p ≡ (answers.Refused (reasons.WrongPhase p), s)
      by phases.Active ne = refl
      by phases.Prepared ne = absurd (ne refl)
      by phases.Decided ne = refl
      by phases.Finished ne = refl
      by phases.Dropped ne = refl

      nothing : (p : Phase) → p ≢ phases.Prepared → txn_writes s (steps.Decide session) tx t p (step s (steps.Decide session)).0 ≡ []
      nothing phases.Active ne = refl
      nothing phases.Prepared ne = absurd (ne refl)
      nothing phases.Decided ne = refl
      nothing phases.Finished ne = refl
      nothing phases.Dropped ne = refl

  pub refused-phase-finish : (p : Phase) → t.phase ≡ p → p ≢ phases.Decided → IsRefused s (steps.Finish session) (reasons.WrongPhase p)
  unfolding step writes
  refused-phase-finish p at other = record { is = on-it (steps.Finish session) p at ∙ by p other; records = writes-it (steps.Finish session) p at ∙ ap as_writes (nothing p other) }
    where
      by : (p : Phase) → p ≢ phases.Decided → on_txn s (steps.Finish session) tx t p ≡ (answers.Refused (reasons.WrongPhase p), s)
      by phases.Active ne = refl
      by phases.Prepared ne = refl
      by phases.Decided ne = absurd (ne refl)
      by phases.Finished ne = refl
      by phases.Dropped ne = refl

      nothing : (p : Phase) → p ≢ phases.Decided → txn_writes s (steps.Finish session) tx t p (step s (steps.Finish session)).0 ≡ []
      nothing phases.Active ne = refl
      nothing phases.Prepared ne = refl
      nothing phases.Decided ne = absurd (ne refl)
      nothing phases.Finished ne = refl
      nothing phases.Dropped ne = refl

  pub refused-phase-rollback : (p : Phase) → t.phase ≡ p → p ≢ phases.Active → p ≢ phases.Prepared → IsRefused s (steps.Rollback session) (reasons.WrongPhase p)
  unfolding step writes
  refused-phase-rollback p at other another = record { is = on-it (steps.Rollback session) p at ∙ by p other another; records = writes-it (steps.Rollback session) p at ∙ ap as_writes (nothing p other another) }
    where
      by : (p : Phase) → p ≢ phases.Active → p ≢ phases.Prepared → on_txn s (steps.Rollback session) tx t p ≡ (answers.Refused (reasons.WrongPhase p), s)
      by phases.Active ne un = absurd (ne refl)
      by phases.Prepared ne un = absurd (un refl)
      by phases.Decided ne un = refl
      by phases.Finished ne un = refl
      by phases.Dropped ne un = refl

      nothing : (p : Phase) → p ≢ phases.Active → p ≢ phases.Prepared → txn_writes s (steps.Rollback session) tx t p (step s (steps.Rollback session)).0 ≡ []
      nothing phases.Active ne un = refl
      nothing phases.Prepared ne un = absurd (un refl)
      nothing phases.Decided ne un = refl
      nothing phases.Finished ne un = refl
      nothing phases.Dropped ne un = refl
