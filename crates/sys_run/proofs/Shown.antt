-- The sessions' objects behind a step of one of them.
use Rattle.std.proofs.Common.{◌≡◌, ◌≢◌, ⊎_elim, ℕ, zero, suc, ◌-◌, ◌<◌, ◌≤◌, Result, OnOk, List, [], ◌∷◌, length, slice_get, slice_set, Option, Some, None, refl, sym, ap, ◌∙◌, subst, arith}
use Rattle.std.proofs.lemmas.Bool.{cases_eq}
use Rattle.std.proofs.lemmas.List.{length-set}
use Rattle.std.specs.Option.{unwrap_or}
use Rattle.db_txn.specs.Transaction.{Transaction, vacant}
use Rattle.dl_base.proofs.Moments.{on_ok}
use Rattle.dl_base.specs.declared.answer.Answer.{Answer}
use Rattle.dl_base.specs.declared.fault.StepFault.{StepFault}
use Rattle.dl_base.specs.declared.step.Step.{Step}
use Rattle.meaning_system.specs.Machine.{step}
use Rattle.meaning_system.specs.State.{State, Txn, txn_of}
use Rattle.sys_core.specs.Seated.{HasTxn, shown_by}
use Rattle.sys_core.specs.Sessions.{AreSeparate, IsOther}
use Rattle.sys_core.specs.Steps.{Shows}
use Rattle.sys_run.specs.Sessions.{AreShown, IsSession, txn_at}

-- ---- lists of objects

pub set-here : (txns : List Transaction) (k : ℕ) (v w : Transaction) → slice_get txns k ≡ Some v → slice_get (slice_set txns k w) k ≡ Some w
set-here [] k v w at = absurd cc
set-here (x ∷ xs) zero v w at = refl
set-here (x ∷ xs) (suc k) v w at = set-here xs k v w at

pub set-there : (txns : List Transaction) (k m : ℕ) (w : Transaction) → m ≢ k → slice_get (slice_set txns k w) m ≡ slice_get txns m
set-there [] k m w other = refl
set-there (x ∷ xs) zero zero w other = absurd (other refl)
set-there (x ∷ xs) zero (suc m) w other = refl
set-there (x ∷ xs) (suc k) zero w other = refl
set-there (x ∷ xs) (suc k) (suc m) w other = set-there xs k m w (λ e. other (ap (λ (n : ℕ). suc n) e))

shown-session : (n : ℕ) (o : Option (ℕ × Txn)) → (shown_by n o).session ≡ n
shown-session n None = refl
shown-session n (Some e) = refl

-- ---- one of them

module _ (s : State) (txns : List Transaction) (k : ℕ) (v : Transaction) (shown : AreShown s txns) (at : slice_get txns k ≡ Some v) where
  its-own : txn_at txns (suc k) ≡ v
  its-own = ap (λ (o : Option Transaction). unwrap_or o (vacant (suc k))) at

  pub has-txn : HasTxn s v
  has-txn = subst (HasTxn s) its-own (shown.shown (suc k))

  pub session-is : v.session ≡ suc k
  session-is = ap (λ (t : Transaction). t.session) (sym its-own) ∙ shown.numbered (suc k)

  module _ (x : Step) (w : Transaction) (own : (n : ℕ) → n ≢ suc k → IsOther x n) (others : (s : State) (x : Step) (v : Transaction) → AreSeparate s → IsOther x v.session → HasTxn s v → HasTxn (step s x).1 v)
      (separate : (s : State) (x : Step) → AreSeparate s → AreSeparate (step s x).1) (now : w ≡ shown_by v.session (txn_of (step s x).1 v.session)) where
    w-session : w.session ≡ suc k
    w-session = ap (λ (t : Transaction). t.session) now ∙ shown-session v.session (txn_of (step s x).1 v.session) ∙ session-is

    w-has : HasTxn (step s x).1 w
    w-has = now ∙ ap (λ (n : ℕ). shown_by n (txn_of (step s x).1 n)) (session-is ∙ sym w-session)

    same : (n : ℕ) → n ≢ suc k → txn_at (slice_set txns k w) n ≡ txn_at txns n
    same zero other = refl
    same (suc m) other = ap (λ (o : Option Transaction). unwrap_or o (vacant (suc m))) (set-there txns k m w (λ e. other (ap (λ (n : ℕ). suc n) e)))

    here : txn_at (slice_set txns k w) (suc k) ≡ w
    here = ap (λ (o : Option Transaction). unwrap_or o (vacant (suc k))) (set-here txns k v w at)

    each : (P : ℕ → Type 0) → P (suc k) → ((n : ℕ) → n ≢ suc k → P n) → (n : ℕ) → P n
    each P own there n = ⊎_elim (λ (e : n ≡ suc k). subst P (sym e) own) (λ (other : n ≢ suc k). there n other) (cases_eq n (suc k))

    pub shown-behind : AreShown (step s x).1 (slice_set txns k w)
    shown-behind = record {
      separate = separate s x shown.separate;
      shown = each (λ n. HasTxn (step s x).1 (txn_at (slice_set txns k w) n)) (subst (HasTxn (step s x).1) (sym here) w-has)
          (λ n other. subst (HasTxn (step s x).1) (sym (same n other)) (others s x (txn_at txns n) shown.separate (subst (IsOther x) (sym (shown.numbered n)) (own n other)) (shown.shown n)));
      numbered = each (λ n. (txn_at (slice_set txns k w) n).session ≡ n) (ap (λ (t : Transaction). t.session) here ∙ w-session)
          (λ n other. ap (λ (t : Transaction). t.session) (same n other) ∙ shown.numbered n);
    }

-- a step of no session
pub shown-still : (s : State) (txns : List Transaction) (x : Step) → ((n : ℕ) → IsOther x n) → ((s : State) (x : Step) (v : Transaction) → AreSeparate s → IsOther x v.session → HasTxn s v → HasTxn (step s x).1 v)
    → ((s : State) (x : Step) → AreSeparate s → AreSeparate (step s x).1) → AreShown s txns → AreShown (step s x).1 txns
shown-still s txns x none others separate shown = record {
  separate = separate s x shown.separate;
  shown = λ n. others s x (txn_at txns n) shown.separate (none (txn_at txns n).session) (shown.shown n);
  numbered = shown.numbered;
}

-- ---- by a session's number, from 1

module _ (s : State) (txns : List Transaction) (n : ℕ) (v : Transaction) (shown : AreShown s txns) (some : 1 ≤ n) (at : slice_get txns (n - 1) ≡ Some v) where
  up : suc (n - 1) ≡ n
  up = omega (arith, some)

  pub own-has : HasTxn s v
  own-has = has-txn s txns (n - 1) v shown at

  pub own-session : v.session ≡ n
  own-session = session-is s txns (n - 1) v shown at ∙ up

  pub own-behind : (x : Step) (w : Transaction) → ((m : ℕ) → m ≢ n → IsOther x m) → ((s : State) (x : Step) (v : Transaction) → AreSeparate s → IsOther x v.session → HasTxn s v → HasTxn (step s x).1 v)
      → ((s : State) (x : Step) → AreSeparate s → AreSeparate (step s x).1) → w ≡ shown_by v.session (txn_of (step s x).1 v.session) → AreShown (step s x).1 (slice_set txns (n - 1) w)
  own-behind x w own others separate now = shown-behind s txns (n - 1) v shown at x w (λ m other. own m (λ e. other (e ∙ sym up))) others separate now

  -- a step of its own, by what its object shows behind it
  pub own-shows : (x : ℕ → Step) (w : Transaction) (result : Result Answer StepFault) → Shows (x v.session) s v w result → ((m : ℕ) → m ≢ n → IsOther (x n) m)
      → ((s : State) (x : Step) (v : Transaction) → AreSeparate s → IsOther x v.session → HasTxn s v → HasTxn (step s x).1 v) → ((s : State) (x : Step) → AreSeparate s → AreSeparate (step s x).1)
      → OnOk result (AreShown (step s (x n)).1 (slice_set txns (n - 1) w))
  own-shows x w result shows own others separate = on_ok result _ _
      (λ now. own-behind (x n) w own others separate (subst (λ (k : ℕ). w ≡ shown_by v.session (txn_of (step s (x k)).1 v.session)) own-session now)) shows.shown

pub own-length : (txns : List Transaction) (k : ℕ) (w : Transaction) → length (slice_set txns k w) ≡ length txns
own-length txns k w = length-set txns k w

get-some : (txns : List Transaction) (k : ℕ) → k < length txns → slice_get txns k ≡ None → ⊥
get-some [] k less none = omega (arith, less)
get-some (x ∷ xs) zero less none = cc
get-some (x ∷ xs) (suc k) less none = get-some xs k (omega (arith, less)) none

-- a session within the list has its object
pub own-there : (txns : List Transaction) (n : ℕ) → IsSession (length txns) n → None ≡ slice_get txns (n - 1) → ⊥
own-there txns n (some, within) none = get-some txns (n - 1) (omega (arith, some, within)) (sym none)
