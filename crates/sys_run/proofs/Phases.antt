-- How far the transaction of a session is.
use Rattle.std.proofs.Common.{◌≡◌, ℕ, suc, List, slice_get, Option, Some, None, refl, sym, ap, ◌∙◌, subst}
use Rattle.std.specs.FinMap as maps
use Rattle.std.specs.Option.{unwrap_or}
use Rattle.db_txn.specs.Transaction.{Transaction, vacant}
use Rattle.meaning_run.specs.Running.{phase_in}
use Rattle.meaning_system.specs.State.{State, Txn, txn_of}
use Rattle.sys_core.proofs.Knowing.{Knows, none-of, some-of}
use Rattle.sys_core.specs.Seated.{AreSeated, HasTxn, IsSeat, phase_at}
use Rattle.sys_core.proofs.Seating.{seat-phase}
use Rattle.sys_run.specs.Sessions.{AreShown, txn_at}
use Rattle.sys_seats.specs.Seats.{Seated, phase_of}
use Rattle.sys_seats.specs.declared.seat.Seat.{Seat}

module _ (s : State) (txns : List Transaction) (shown : AreShown s txns) where
  its : (n : ℕ) (v : Transaction) → txn_at txns n ≡ v → HasTxn s v
  its n v is = subst (HasTxn s) is (shown.shown n)

  its-session : (n : ℕ) (v : Transaction) → txn_at txns n ≡ v → v.session ≡ n
  its-session n v is = ap (λ (t : Transaction). t.session) (sym is) ∙ shown.numbered n

  -- one without a transaction
  pub none-has : (n : ℕ) (v : Transaction) → txn_at txns n ≡ v → v.tx ≡ None → phase_in (txn_of s n) ≡ None
  none-has n v is none = ap phase_in (ap (txn_of s) (sym (its-session n v is)) ∙ none-of s v (its n v is) none)

  pub none-first : phase_in (txn_of s 0) ≡ None
  none-first = none-has 0 (vacant 0) refl refl

  pub none-there : (k : ℕ) → slice_get txns k ≡ None → phase_in (txn_of s (suc k)) ≡ None
  none-there k none = none-has (suc k) (vacant (suc k)) (ap (λ (o : Option Transaction). unwrap_or o (vacant (suc k))) none) refl

  -- one that has a transaction, of this number
  module _ (k : ℕ) (v : Transaction) (at : slice_get txns k ≡ Some v) (tx : ℕ) (has : v.tx ≡ Some tx) (seats : Seated) (seated : AreSeated s seats) where
    here : txn_at txns (suc k) ≡ v
    here = ap (λ (o : Option Transaction). unwrap_or o (vacant (suc k))) at

    know : (t : Txn) × Knows s v tx t
    know = some-of s v tx (its (suc k) v here) has

    of : txn_of s (suc k) ≡ Some (tx, know.0)
    of = ap (txn_of s) (sym (its-session (suc k) v here)) ∙ know.1.of

    pub some-seat : maps.get seats tx ≡ None → ⊥
    some-seat none = subst (λ (o : Option Seat). IsSeat s tx (Some know.0) o) none (subst (λ (o : Option Txn). IsSeat s tx o (maps.get seats tx)) know.1.there (seated tx))

    pub phase-of : (x : Seat) → maps.get seats tx ≡ Some x → phase_in (txn_of s (suc k)) ≡ Some (phase_of x.stage)
    phase-of x at_seat = ap phase_in of ∙ ap (λ p. Some p) (sym (seat-phase s seats tx know.0 seated know.1.there) ∙ ap phase_at at_seat)

  -- none where it has none at its place, for that
  pub none-tx : (k : ℕ) (v : Transaction) → slice_get txns k ≡ Some v → v.tx ≡ None → phase_in (txn_of s (suc k)) ≡ None
  none-tx k v at none = none-has (suc k) v (ap (λ (o : Option Transaction). unwrap_or o (vacant (suc k))) at) none
