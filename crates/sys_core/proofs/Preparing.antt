-- THE VOTE OF A SESSION: by what its object has, how far its transaction is, and why it is refused.
use Rattle.std.proofs.Common.{◌≡◌, ℕ, Option, Some, None, sym, ◌∙◌}
use Rattle.std.specs.FinMap as maps
use Rattle.db_txn.specs.Transaction.{Transaction}
use Rattle.dl_base.specs.declared.answer.Refusal.{Refusal}
use Rattle.dl_base.specs.declared.answer.Refusal.TheVariants as reasons
use Rattle.dl_base.specs.declared.step.Phase.{Phase}
use Rattle.dl_base.specs.declared.step.Phase.TheVariants as phases
use Rattle.dl_base.specs.declared.step.Step.TheVariants as steps
use Rattle.meaning_system.specs.Claims.{prepare_refusal}
use Rattle.meaning_system.specs.State.{State, Txn}
use Rattle.sys_core.proofs.Knowing.{Knows, some-of}
use Rattle.sys_core.proofs.Refused.{IsRefused, refused-phase-prepare}
use Rattle.sys_core.proofs.Seating.{seat-phase}
use Rattle.sys_core.proofs.Voted.{refused-vote}
use Rattle.sys_core.specs.Seated.{HasTxn, phase_at}
use Rattle.sys_core.specs.Standing.{IsOf}
use Rattle.sys_core.specs.Voting.{CanVote}
use Rattle.sys_core.specs.declared.engine.Engine.{Engine}

module _ (first : ℕ) (w : Engine) (s : State) (v : Transaction) (tx : ℕ) (is : IsOf first w s) (has : HasTxn s v) (found : Some tx ≡ v.tx) (p : Phase) (far : p ≡ phase_at (maps.get w.seats tx)) where
  abbrev known : (t : Txn) × Knows s v tx t
  known = some-of s v tx has (sym found)

  pub phase-is : known.0.phase ≡ p
  phase-is = sym (seat-phase s w.seats tx known.0 is.seats known.1.there) ∙ sym far

  -- it is not active
  pub wrong-phase : (p ≡ phases.Active → ⊥) → IsRefused s (steps.Prepare v.session) (reasons.WrongPhase p)
  wrong-phase other = refused-phase-prepare s v.session tx known.0 known.1.of p phase-is other

  -- it is
  module _ (active : p ≡ phases.Active) (r : Option Refusal) (told : (t : Txn) → maps.get s.txs tx ≡ Some t → r ≡ prepare_refusal s t) where
    pub refused-so : (why : Refusal) → r ≡ Some why → IsRefused s (steps.Prepare v.session) why
    refused-so why same = refused-vote s v.session tx known.0 why known.1.of (phase-is ∙ active) (sym (told known.0 known.1.there) ∙ same)

    pub may-vote : r ≡ None → (t : Txn) × Knows s v tx t × CanVote first w s v.session tx t
    may-vote none = (known.0, known.1, record { state = is; txn = known.1.of; active = phase-is ∙ active; passes = sym (told known.0 known.1.there) ∙ none })
