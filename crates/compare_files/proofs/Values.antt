-- What is true of each value of a map is true of what is found under each key.
use Rattle.std.proofs.Common.{◌≡◌, ℕ, Bool, true, false, cond, List, [], ◌∷◌, map, Some, refl, sym, ◌∙◌, ap}
use Rattle.std.specs.Prelude.{T}
use Rattle.std.specs.Cmp.Lexicographic.{slice_cmp}
use Rattle.std.specs.FinMap as maps
use Rattle.std.specs.FinMap.Entries.{below_all}
use Rattle.std.specs.List.{list_all}
use Rattle.std.specs.Ordering.{is_eq, is_lt, nat_cmp}
use Rattle.std.specs.declared.cmp.Ordering.{Ordering}
use Rattle.std.specs.declared.cmp.Ordering.TheVariants.{Less, Equal, Greater}
use Rattle.compare_files.specs.Effects.{Entries}
use Rattle.compare_files.proofs.HaveFiles.{all, both}
use Rattle.meaning_areas.proofs.Tables.{some_same}
use Rattle.meaning_settling.specs.Keyed.{Keyed, is_at}
use Rattle.meaning_settling.proofs.KeyedLaws.{false_true, is_at-same, is_at-self}

module _ {X : Type 0} (test : X → Bool) where
  found-passes : (es : Entries X) (n : List ℕ) (x : X) → list_all test (map (λ e. e.1) es) ≡ true → maps.find (slice_cmp nat_cmp) n es ≡ Some x → test x ≡ true
  found-passes [] n x e at = absurd cc
  found-passes (y ∷ ys) n x e at =
      let two = both (test y.1) (list_all test (map (λ z. z.1) ys)) e in
      by (found-passes ys n x two.1) two.0 (is_at n y.0) at
    where
      by : (maps.find (slice_cmp nat_cmp) n ys ≡ Some x → test x ≡ true) → test y.1 ≡ true → (b : Bool) → cond b (Some y.1) (maps.find (slice_cmp nat_cmp) n ys) ≡ Some x → test x ≡ true
      by rest here true at = ap test (sym (some_same y.1 x at)) ∙ here
      by rest here false at = rest at

  pub values-pass : (m : Keyed X) → list_all test (maps.values m) ≡ true → (n : List ℕ) (x : X) → maps.get m n ≡ Some x → test x ≡ true
  values-pass m e n x at = found-passes (maps.entries m) n x e (sym (maps.get-entries m n) ∙ at)

  -- a key below all others is not one of them
  never-below : (k : List ℕ) (es : Entries X) (n : List ℕ) (x : X) → below_all (slice_cmp nat_cmp) k es ≡ true → maps.find (slice_cmp nat_cmp) n es ≡ Some x → is_at n k ≡ true → ⊥
  never-below k [] n x below at is = cc
  never-below k (y ∷ ys) n x below at is =
      let two = both (is_lt (slice_cmp nat_cmp k y.0)) (below_all (slice_cmp nat_cmp) k ys) below in
      by (λ later. never-below k ys n x two.1 later is) (is_at n y.0) refl at two.0
    where
      tied : (r : Ordering) → is_eq r ≡ true → is_lt r ≡ true → ⊥
      tied Less e l = false_true e
      tied Equal e l = false_true l
      tied Greater e l = false_true e

      by : (maps.find (slice_cmp nat_cmp) n ys ≡ Some x → ⊥) → (b : Bool) → is_at n y.0 ≡ b → cond b (Some y.1) (maps.find (slice_cmp nat_cmp) n ys) ≡ Some x → is_lt (slice_cmp nat_cmp k y.0) ≡ true → ⊥
      by rest true here at less =
          let same_key : k ≡ y.0 = sym (is_at-same n k is) ∙ is_at-same n y.0 here in
          tied (slice_cmp nat_cmp k y.0) (ap (λ (q : List ℕ). is_at q y.0) same_key ∙ is_at-self y.0) less
      by rest false there at less = rest at

  each-found : (es : Entries X) → maps.is_sorted (slice_cmp nat_cmp) es ≡ true → ((n : List ℕ) (x : X) → maps.find (slice_cmp nat_cmp) n es ≡ Some x → test x ≡ true) → list_all test (map (λ e. e.1) es) ≡ true
  each-found [] sorted each = refl
  each-found (y ∷ ys) sorted each =
      let two = both (below_all (slice_cmp nat_cmp) y.0 ys) (maps.is_sorted (slice_cmp nat_cmp) ys) sorted in
      all (test y.1) (list_all test (map (λ z. z.1) ys))
      (each y.0 y.1 (ap (λ b. cond b (Some y.1) (maps.find (slice_cmp nat_cmp) y.0 ys)) (is_at-self y.0)))
      (each-found ys two.1 (λ n x at. by two.0 n x at (is_at n y.0) refl))
    where
      by : below_all (slice_cmp nat_cmp) y.0 ys ≡ true → (n : List ℕ) (x : X) → maps.find (slice_cmp nat_cmp) n ys ≡ Some x → (b : Bool) → is_at n y.0 ≡ b → test x ≡ true
      by below n x at true here = absurd (never-below y.0 ys n x below at here)
      by below n x at false there = each n x (ap (λ b. cond b (Some y.1) (maps.find (slice_cmp nat_cmp) n ys)) there ∙ at)

  sorted-is : (b : Bool) → T b → b ≡ true
  sorted-is true t = refl
  sorted-is false t = absurd t

  pub each-value : (m : Keyed X) → ((n : List ℕ) (x : X) → maps.get m n ≡ Some x → test x ≡ true) → list_all test (maps.values m) ≡ true
  each-value m each = each-found (maps.entries m) (sorted-is (maps.is_sorted (slice_cmp nat_cmp) (maps.entries m)) (maps.entries_sorted m)) (λ n x at. each n x (maps.get-entries m n ∙ at))
