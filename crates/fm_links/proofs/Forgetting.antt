-- Where each active transaction lets its claim go, those of the others stay.
use Rattle.std.proofs.Common.{◌≡◌, ℕ, List, [], ◌∷◌, Bool, true, false, not, cond, ◌==◌, ◌&&◌, ◌||◌, Option, Some, None, refl, sym, ◌∙◌, ap}
use Rattle.std.specs.FinMap as maps
use Rattle.meaning_areas.proofs.Tables.{some_same, test-same}
use Rattle.meaning_areas.specs.Joint.{Joint}
use Rattle.meaning_areas.specs.Lists.{Folds}
use Rattle.meaning_settling.specs.Keyed.{Keyed}
use Rattle.meaning_system.specs.CoreOf.{core_of}
use Rattle.meaning_system.specs.Machine.{is_bound}
use Rattle.meaning_system.specs.State.{State, Txn, is_active, is_doomed, moved_of}
use Rattle.fm_links.proofs.Moving.{get-without}
use Rattle.fm_links.proofs.Searching.{IsOnly, Owner, are-apart, claim_in, claims-only, lacks, moved-has, of_it, owner, picked, same-number}
use Rattle.fm_links.specs.Claims.{PathClaim, claim_by, without_claim}
use Rattle.fm_links.specs.Searching.{AreClaims, has_claim}
use Rattle.fm_links.specs.Stepping.{AreActive, AreAllActive, claimed_in, is_named, staying, stays_bound, without_all}

false_true : false ≡ true → ⊥
false_true e = cc

module _ (s : State) (p : List ℕ) (o : Option PathClaim) (only : IsOnly s p o) where
  -- one more lets its claim go
  less : (stays : ℕ → Bool) (tx : ℕ) (t : Txn) → maps.get s.txs tx ≡ Some t → cond (has_claim s p (tx, t)) None (staying stays o) ≡ staying (λ q. stays q && not (tx == q)) o
  less stays tx t at = by (has_claim s p (tx, t)) refl o (sym (only tx) ∙ ap (claim_in s p tx) at)
    where
      and-false : (a : Bool) → (a && false) ≡ false
      and-false true = refl
      and-false false = refl

      and-true : (a : Bool) → (a && true) ≡ a
      and-true true = refl
      and-true false = refl

      turned : (c : PathClaim) (b : Bool) → (c.tx == tx) ≡ b → (tx == c.tx) ≡ b
      turned c b e = sym (same (c.tx == tx) (tx == c.tx) (λ x. ap (λ n. tx == n) (same-number c.tx tx x) ∙ itself tx) (λ x. ap (λ n. n == tx) (sym (same-number tx c.tx x)) ∙ itself tx)) ∙ e
        where
          itself : (n : ℕ) → (n == n) ≡ true
          itself n = test-same n n refl

          same : (a b : Bool) → (a ≡ true → b ≡ true) → (b ≡ true → a ≡ true) → a ≡ b
          same true true f g = refl
          same true false f g = sym (f refl)
          same false true f g = g refl
          same false false f g = refl

      by : (b : Bool) → has_claim s p (tx, t) ≡ b → (o : Option PathClaim) → of_it tx o ≡ cond (has_claim s p (tx, t)) (Some (claim_by tx (moved_of t) p)) None → cond b None (staying stays o) ≡ staying (λ q. stays q && not (tx == q)) o
      by true has None is = refl
      by false has None is = refl
      by true has (Some c) is =
          let own = picked (c.tx == tx) c (claim_by tx (moved_of t) p) (is ∙ ap (λ b. cond b (Some (claim_by tx (moved_of t) p)) None) has) in
          sym (ap (λ b. cond (stays c.tx && not b) (Some c) None) (turned c true own.0) ∙ ap (λ b. cond b (Some c) None) (and-false (stays c.tx)))
      by false has (Some c) is =
          let other = lacks (c.tx == tx) c (is ∙ ap (λ b. cond b (Some (claim_by tx (moved_of t) p)) None) has) in
          sym (ap (λ b. cond (stays c.tx && not b) (Some c) None) (turned c false other) ∙ ap (λ b. cond b (Some c) None) (and-true (stays c.tx)))

  -- all of them, one after the other
  gone : (es : List (ℕ × Txn)) → AreActive s es → (claims : Keyed PathClaim) (stays : ℕ → Bool) → maps.get claims p ≡ staying stays o → maps.get (without_all s es claims) p ≡ staying (λ q. stays q && not (is_named es q)) o
  gone [] active claims stays is = is ∙ by o
    where
      and-true : (a : Bool) → a ≡ (a && true)
      and-true true = refl
      and-true false = refl

      by : (o : Option PathClaim) → staying stays o ≡ staying (λ q. stays q && not (is_named [] q)) o
      by None = refl
      by (Some c) = ap (λ b. cond b (Some c) None) (and-true (stays c.tx))
  gone (e ∷ es) active claims stays is =
      gone es active.2 (without_claim (claimed_in s e.1) claims) (λ q. stays q && not (e.0 == q))
      (get-without (claimed_in s e.1) claims p ∙ (λ i. cond (moved-has (is_doomed s e.1) (moved_of e.1) p i) None (is i)) ∙ less stays e.0 e.1 active.0)
      ∙ by o
    where
      both : (a b c : Bool) → (a && not b && not c) ≡ (a && not (b || c))
      both true true c = refl
      both true false c = refl
      both false b c = refl

      by : (o : Option PathClaim) → staying (λ q. (stays q && not (e.0 == q)) && not (is_named es q)) o ≡ staying (λ q. stays q && not (is_named (e ∷ es) q)) o
      by None = refl
      by (Some c) = ap (λ b. cond b (Some c) None) (both (stays c.tx) (e.0 == c.tx) (is_named es c.tx))

-- who is named is active
named-active : (s : State) (es : List (ℕ × Txn)) → AreActive s es → (tx : ℕ) (t : Txn) → maps.get s.txs tx ≡ Some t → is_named es tx ≡ true → is_active t.phase ≡ true
named-active s [] active tx t at named = absurd (false_true named)
named-active s (e ∷ es) active tx t at named = by (e.0 == tx) refl named (named-active s es active.2 tx t at)
  where
    by : (b : Bool) → (e.0 == tx) ≡ b → (b || is_named es tx) ≡ true → (is_named es tx ≡ true → is_active t.phase ≡ true) → is_active t.phase ≡ true
    by true same any rest =
        let is : e.1 ≡ t = some_same e.1 t (sym active.0 ∙ ap (maps.get s.txs) (same-number e.0 tx same) ∙ at) in
        ap (λ (x : Txn). is_active x.phase) (sym is) ∙ active.1
    by false other any rest = rest any

pub forgotten : (f : Folds) (s : State) (claims : Keyed PathClaim) (es : List (ℕ × Txn)) (p : List ℕ) → Joint f (core_of s) → AreClaims claims s → AreActive s es → AreAllActive s es
    → maps.get (without_all s es claims) p ≡ staying (stays_bound s) (maps.get claims p)
forgotten f s claims es p joint are active all =
    gone s p (maps.get claims p) only es active claims (λ q. true) (by (maps.get claims p)) ∙ last (maps.get claims p) only
  where
    only : IsOnly s p (maps.get claims p)
    only = claims-only s claims (are-apart f s joint) are p

    by : (o : Option PathClaim) → o ≡ staying (λ q. true) o
    by None = refl
    by (Some c) = refl

    last : (o : Option PathClaim) → IsOnly s p o → staying (λ q. true && not (is_named es q)) o ≡ staying (stays_bound s) o
    last None of = refl
    last (Some c) of = ap (λ b. cond b (Some c) None) (alike (is_named es c.tx) refl (is_active it.0.phase) refl ∙ sym (ap is_bound it.1))
      where
        it : Owner s p c
        it = owner s p c of

        alike : (a : Bool) → is_named es c.tx ≡ a → (b : Bool) → is_active it.0.phase ≡ b → not (is_named es c.tx) ≡ not (is_active it.0.phase)
        alike true named true acts = ap not (named ∙ sym acts)
        alike false other false rests = ap not (other ∙ sym rests)
        alike true named false rests = absurd (false_true (sym rests ∙ named-active s es active c.tx it.0 it.1 named))
        alike false other true acts = absurd (false_true (sym other ∙ all c.tx it.0 it.1 acts))
