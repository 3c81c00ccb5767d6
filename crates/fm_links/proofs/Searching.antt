-- The claim on a path is that of the one transaction that has one there.
use Rattle.std.proofs.Common.{◌≡◌, ◌≢◌, ⊎_elim, ℕ, List, [], ◌∷◌, Bool, true, false, not, cond, ◌==◌, ◌&&◌, Option, Some, None, refl, sym, ◌∙◌, ap, subst, arith}
use Rattle.std.proofs.lemmas.Bool.{cases_eq}
use Rattle.std.proofs.lemmas.Bool.Decides.{nat_tests}
use Rattle.std.specs.FinMap as maps
use Rattle.std.specs.FinMap.{get-entries}
use Rattle.std.specs.List.{find}
use Rattle.dl_base.specs.declared.answer.ClaimRefusal.TheVariants as claim_refusals
use Rattle.dl_base.specs.declared.answer.Refusal.TheVariants as reasons
use Rattle.meaning_areas.proofs.Tables.{some_same, test-other, test-same}
use Rattle.meaning_areas.specs.Joint.{Joint}
use Rattle.meaning_areas.specs.Lists.{Folds}
use Rattle.meaning_settling.specs.Apart.{has_path}
use Rattle.meaning_settling.specs.Keyed.{Keyed}
use Rattle.meaning_settling.specs.Settling.{Moved}
use Rattle.meaning_system.proofs.Claiming.{none-passes}
use Rattle.meaning_system.proofs.Resolved.{Found, entries-found}
use Rattle.meaning_system.specs.Claims.{busy, busy_on, holds_path}
use Rattle.meaning_system.specs.CoreOf.{claimed_by, core_of, work_at, work_of}
use Rattle.meaning_system.specs.State.{State, Txn, is_doomed, moved_of}
use Rattle.fm_links.specs.Claims.{PathClaim, claim_by}
use Rattle.fm_links.specs.Searching.{AreClaims, busy_by, claim_at, claim_of, has_claim}

false_true : false ≡ true → ⊥
false_true e = cc

none_some : {A : Type 0} (x : A) → None ≡ Some x → ⊥
none_some x e = cc

pub same-number : (x y : ℕ) → (x == y) ≡ true → x ≡ y
same-number x y e = grind (arith, nat_tests)

-- the claim of one transaction
abbrev pub claim_in : State → List ℕ → ℕ → Option Txn → Option PathClaim
claim_in s p q None = None
claim_in s p q (Some t) = cond (has_claim s p (q, t)) (Some (claim_by q (moved_of t) p)) None

abbrev pub of_it : ℕ → Option PathClaim → Option PathClaim
of_it q None = None
of_it q (Some c) = cond (c.tx == q) (Some c) None

-- ON A PATH THIS CLAIM, and no other
abbrev pub IsOnly : State → List ℕ → Option PathClaim → Type 0
IsOnly s p o = (q : ℕ) → claim_in s p q (maps.get s.txs q) ≡ of_it q o

-- no two transactions claim one path
abbrev pub AreApart : State → Type 0
AreApart s = (p : List ℕ) (q u : ℕ) (t v : Txn) → maps.get s.txs q ≡ Some t → maps.get s.txs u ≡ Some v → has_claim s p (q, t) ≡ true → has_claim s p (u, v) ≡ true → q ≡ u

pub lacks : (b : Bool) (c : PathClaim) → cond b (Some c) None ≡ None → b ≡ false
lacks true c e = absurd (none_some c (sym e))
lacks false c e = refl

pub picked : (b : Bool) (x c : PathClaim) → cond b (Some x) None ≡ Some c → (b ≡ true) × (x ≡ c)
picked true x c e = (refl, some_same x c e)
picked false x c e = absurd (none_some c e)

-- in the words of the joint invariant

pub moved-has : (d : Bool) (m : Moved) (p : List ℕ) → has_path (claimed_by d m) p ≡ (not d && has_path m p)
moved-has true m p = refl
moved-has false m p = refl

pub are-apart : (f : Folds) (s : State) → Joint f (core_of s) → AreApart s
are-apart f s joint p q u t v at there has too = ⊎_elim
    (λ (e : q ≡ u). e)
    (λ (other : q ≢ u). absurd (⊎_elim
    (λ (misses : has_path (work_of s t).moved p ≡ false). false_true (sym misses ∙ moved-has (is_doomed s t) (moved_of t) p ∙ has))
    (λ (misses : has_path (work_of s v).moved p ≡ false). false_true (sym misses ∙ moved-has (is_doomed s v) (moved_of v) p ∙ too))
    (joint.apart q u other (work_of s t) (work_of s v) (ap (work_at s) at) (ap (work_at s) there) p)))
    (cases_eq q u)

-- what is found among entries

find-no : (at : ℕ → Option Txn) (test : ℕ × Txn → Bool) (es : List (ℕ × Txn)) → Found at es → ((q : ℕ) (t : Txn) → at q ≡ Some t → test (q, t) ≡ false) → find test es ≡ None
find-no at test [] found misses = refl
find-no at test (e ∷ es) found misses = ap (λ b. cond b (Some e) (find test es)) (misses e.0 e.1 found.0) ∙ find-no at test es found.1 misses

find-some : (at : ℕ → Option Txn) (test : ℕ × Txn → Bool) (es : List (ℕ × Txn)) (e : ℕ × Txn) → Found at es → find test es ≡ Some e → (test e ≡ true) × (at e.0 ≡ Some e.1)
find-some at test [] e found is = absurd (none_some e is)
find-some at test (x ∷ xs) e found is = by (test x) refl is (find-some at test xs e found.1)
  where
    by : (b : Bool) → test x ≡ b → cond b (Some x) (find test xs) ≡ Some e → (find test xs ≡ Some e → (test e ≡ true) × (at e.0 ≡ Some e.1)) → (test e ≡ true) × (at e.0 ≡ Some e.1)
    by true passes here rest = subst (λ (y : ℕ × Txn). (test y ≡ true) × (at y.0 ≡ Some y.1)) (some_same x e here) (passes, found.0)
    by false fails there rest = rest there

-- the transaction of a claim
abbrev pub Owner : State → List ℕ → PathClaim → Type 0
Owner s p c = (t : Txn) × (maps.get s.txs c.tx ≡ Some t) × (has_claim s p (c.tx, t) ≡ true) × (claim_by c.tx (moved_of t) p ≡ c)

module _ (s : State) (p : List ℕ) where
  -- who has the claim, and who has none
  pub owner : (c : PathClaim) → IsOnly s p (Some c) → Owner s p c
  owner c only = by (maps.get s.txs c.tx) refl (only c.tx ∙ ap (λ b. cond b (Some c) None) (test-same c.tx c.tx refl))
    where
      by : (o : Option Txn) → maps.get s.txs c.tx ≡ o → claim_in s p c.tx o ≡ Some c → Owner s p c
      by None at is = absurd (none_some c is)
      by (Some t) at is = let two = picked (has_claim s p (c.tx, t)) (claim_by c.tx (moved_of t) p) c is in (t, at, two.0, two.1)

  pub lacking : (o : Option PathClaim) → IsOnly s p o → (q : ℕ) (t : Txn) → maps.get s.txs q ≡ Some t → of_it q o ≡ None → has_claim s p (q, t) ≡ false
  lacking o only q t at none = lacks (has_claim s p (q, t)) (claim_by q (moved_of t) p) (sym (ap (claim_in s p q) at) ∙ only q ∙ none)

  pub not-its : (c : PathClaim) (q : ℕ) → c.tx ≢ q → of_it q (Some c) ≡ None
  not-its c q other = ap (λ b. cond b (Some c) None) (test-other c.tx q other)

  -- THE SEARCH FINDS IT
  pub found-only : AreApart s → IsOnly s p (claim_at s p)
  found-only apart q = by (find (has_claim s p) (maps.entries s.txs)) refl
    where
      nobody : find (has_claim s p) (maps.entries s.txs) ≡ None → (o : Option Txn) → maps.get s.txs q ≡ o → claim_in s p q o ≡ None
      nobody none None at = refl
      nobody none (Some t) at = ap (λ b. cond b (Some (claim_by q (moved_of t) p)) None) (none-passes (has_claim s p) q t (maps.entries s.txs) none (sym (get-entries s.txs q) ∙ at))

      other : (e : ℕ × Txn) → maps.get s.txs e.0 ≡ Some e.1 → has_claim s p e ≡ true → e.0 ≢ q → (o : Option Txn) → maps.get s.txs q ≡ o → claim_in s p q o ≡ None
      other e there has differs None at = refl
      other e there has differs (Some t) at = test (has_claim s p (q, t)) refl
        where
          test : (b : Bool) → has_claim s p (q, t) ≡ b → cond b (Some (claim_by q (moved_of t) p)) None ≡ None
          test true too = absurd (differs (apart p e.0 q e.1 t there at has too))
          test false misses = refl

      by : (o : Option (ℕ × Txn)) → find (has_claim s p) (maps.entries s.txs) ≡ o → claim_in s p q (maps.get s.txs q) ≡ of_it q (claim_of p o)
      by None none = nobody none (maps.get s.txs q) refl
      by (Some e) is =
          let it = find-some (maps.get s.txs) (has_claim s p) (maps.entries s.txs) e (entries-found s.txs) is in
          ⊎_elim
          (λ (same : e.0 ≡ q).
          ap (claim_in s p q) (ap (maps.get s.txs) (sym same) ∙ it.1) ∙ ap (λ b. cond b (Some (claim_by q (moved_of e.1) p)) None) it.0
          ∙ ap (λ (n : ℕ). Some (claim_by n (moved_of e.1) p)) (sym same) ∙ sym (ap (λ b. cond b (Some (claim_by e.0 (moved_of e.1) p)) None) (test-same e.0 q same)))
          (λ (differs : e.0 ≢ q). other e it.1 it.0 differs (maps.get s.txs q) refl ∙ sym (ap (λ b. cond b (Some (claim_by e.0 (moved_of e.1) p)) None) (test-other e.0 q differs)))
          (cases_eq e.0 q)

  pub only-found : (o : Option PathClaim) → IsOnly s p o → claim_at s p ≡ o
  only-found o only = by (find (has_claim s p) (maps.entries s.txs)) refl o only
    where
      by : (x : Option (ℕ × Txn)) → find (has_claim s p) (maps.entries s.txs) ≡ x → (o : Option PathClaim) → IsOnly s p o → claim_of p x ≡ o
      by None none None only = refl
      by None none (Some c) only =
          let it = owner c only in
          absurd (false_true (sym (none-passes (has_claim s p) c.tx it.0 (maps.entries s.txs) none (sym (get-entries s.txs c.tx) ∙ it.1)) ∙ it.2))
      by (Some e) is o only = of o (sym (only e.0) ∙ here)
        where
          it : (has_claim s p e ≡ true) × (maps.get s.txs e.0 ≡ Some e.1)
          it = find-some (maps.get s.txs) (has_claim s p) (maps.entries s.txs) e (entries-found s.txs) is

          here : claim_in s p e.0 (maps.get s.txs e.0) ≡ Some (claim_by e.0 (moved_of e.1) p)
          here = ap (claim_in s p e.0) it.1 ∙ ap (λ b. cond b (Some (claim_by e.0 (moved_of e.1) p)) None) it.0

          of : (o : Option PathClaim) → of_it e.0 o ≡ Some (claim_by e.0 (moved_of e.1) p) → Some (claim_by e.0 (moved_of e.1) p) ≡ o
          of None misses = absurd (none_some (claim_by e.0 (moved_of e.1) p) misses)
          of (Some c) shows = ap (λ (x : PathClaim). Some x) (sym (picked (c.tx == e.0) c (claim_by e.0 (moved_of e.1) p) shows).1)

-- the claims of a state are those that are the only ones

pub claims-only : (s : State) (claims : Keyed PathClaim) → AreApart s → AreClaims claims s → (p : List ℕ) → IsOnly s p (maps.get claims p)
claims-only s claims apart are p q = found-only s p apart q ∙ ap (of_it q) (sym (are p))

pub only-claims : (s : State) (claims : Keyed PathClaim) → ((p : List ℕ) → IsOnly s p (maps.get claims p)) → AreClaims claims s
only-claims s claims only p = sym (only-found s p (maps.get claims p) (only p))

-- WHO IS IN THE WAY

holds-no : (a d h : Bool) → (not d && h) ≡ false → (not a && not d && h) ≡ false
holds-no true d h e = refl
holds-no false true h e = refl
holds-no false false h e = e

holds-yes : (a d h : Bool) → (not a && not d && h) ≡ true → (a ≡ false) × ((not d && h) ≡ true)
holds-yes true d h e = absurd (false_true e)
holds-yes false true h e = absurd (false_true e)
holds-yes false false h e = (refl, e)

yes-holds : (a d h : Bool) → a ≡ false → (not d && h) ≡ true → (not a && not d && h) ≡ true
yes-holds true d h own e = absurd (false_true (sym own))
yes-holds false true h own e = absurd (false_true e)
yes-holds false false h own e = e

module _ (s : State) (tx : ℕ) (p : List ℕ) where
  held-by-none : ((q : ℕ) (t : Txn) → maps.get s.txs q ≡ Some t → holds_path s tx p (q, t) ≡ false) → busy_on s tx p ≡ None
  held-by-none misses = ap (busy p) (find-no (maps.get s.txs) (holds_path s tx p) (maps.entries s.txs) (entries-found s.txs) misses)

  pub busy-is : (o : Option PathClaim) → IsOnly s p o → busy_on s tx p ≡ busy_by tx p o
  busy-is None only = held-by-none (λ q t at. holds-no (q == tx) (is_doomed s t) (has_path (moved_of t) p) (lacking s p None only q t at refl))
  busy-is (Some c) only = by (c.tx == tx) refl
    where
      it : Owner s p c
      it = owner s p c only

      own : c.tx ≡ tx → (q : ℕ) (t : Txn) → maps.get s.txs q ≡ Some t → holds_path s tx p (q, t) ≡ false
      own is q t at = ⊎_elim
          (λ (e : c.tx ≡ q). ap (λ b. not b && not (is_doomed s t) && has_path (moved_of t) p) (test-same q tx (sym e ∙ is)))
          (λ (other : c.tx ≢ q). holds-no (q == tx) (is_doomed s t) (has_path (moved_of t) p) (lacking s p (Some c) only q t at (not-its s p c q other)))
          (cases_eq c.tx q)

      found : (c.tx == tx) ≡ false → (x : Option (ℕ × Txn)) → find (holds_path s tx p) (maps.entries s.txs) ≡ x → busy p x ≡ Some (reasons.Claim (claim_refusals.Busy p c.tx))
      found differs None none =
          absurd (false_true (sym (none-passes (holds_path s tx p) c.tx it.0 (maps.entries s.txs) none (sym (get-entries s.txs c.tx) ∙ it.1))
          ∙ yes-holds (c.tx == tx) (is_doomed s it.0) (has_path (moved_of it.0) p) differs it.2))
      found differs (Some e) is =
          let one = find-some (maps.get s.txs) (holds_path s tx p) (maps.entries s.txs) e (entries-found s.txs) is in
          let has = (holds-yes (e.0 == tx) (is_doomed s e.1) (has_path (moved_of e.1) p) one.0).1 in
          let here : claim_in s p e.0 (maps.get s.txs e.0) ≡ Some (claim_by e.0 (moved_of e.1) p) = ap (claim_in s p e.0) one.1 ∙ ap (λ b. cond b (Some (claim_by e.0 (moved_of e.1) p)) None) has in
          let same = picked (c.tx == e.0) c (claim_by e.0 (moved_of e.1) p) (sym (only e.0) ∙ here) in
          ap (λ (n : ℕ). Some (reasons.Claim (claim_refusals.Busy p n))) (sym (same-number c.tx e.0 same.0))

      by : (b : Bool) → (c.tx == tx) ≡ b → busy_on s tx p ≡ cond b None (Some (reasons.Claim (claim_refusals.Busy p c.tx)))
      by true is = held-by-none (own (same-number c.tx tx is))
      by false differs = found differs (find (holds_path s tx p) (maps.entries s.txs)) refl

pub busy-law : (f : Folds) (s : State) (claims : Keyed PathClaim) (tx : ℕ) (path : List ℕ) → Joint f (core_of s) → AreClaims claims s → busy_on s tx path ≡ busy_by tx path (maps.get claims path)
busy-law f s claims tx path joint are = busy-is s tx path (maps.get claims path) (claims-only s claims (are-apart f s joint) are path)
