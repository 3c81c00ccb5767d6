-- Places within a list.
use Rattle.std.proofs.Common.{◌≡◌, ℕ, zero, suc, ◌+◌, ◌<◌, ◌≤◌, None, Some, List, [], ◌∷◌, ◌++◌, length, refl, ap, arith}
use Rattle.std.specs.List.{slice_get}

module _ {T : Type 0} where
  pub none_within : (xs : List T) (i : ℕ) → i < length xs → slice_get xs i ≡ None → ⊥
  none_within [] i within none = omega arith
  none_within (x ∷ xs) zero within none = cc none
  none_within (x ∷ xs) (suc i) within none = none_within xs i (omega arith) none

  pub none_past : (xs : List T) (i : ℕ) → slice_get xs i ≡ None → length xs ≤ i
  none_past [] i is = omega arith
  none_past (x ∷ xs) zero is = cc is
  none_past (x ∷ xs) (suc i) is = omega (arith, none_past xs i is)

  pub some_within : (xs : List T) (i : ℕ) (x : T) → slice_get xs i ≡ Some x → i < length xs
  some_within [] i x is = cc is
  some_within (y ∷ xs) zero x is = omega arith
  some_within (y ∷ xs) (suc i) x is = omega (arith, some_within xs i x is)

  pub get_left : (xs ys : List T) (i : ℕ) → i < length xs → slice_get (xs ++ ys) i ≡ slice_get xs i
  get_left [] ys i within = absurd (omega arith)
  get_left (x ∷ xs) ys zero within = refl
  get_left (x ∷ xs) ys (suc i) within = get_left xs ys i (omega arith)

  pub get_right : (xs ys : List T) (k i : ℕ) → length xs + k ≡ i → slice_get (xs ++ ys) i ≡ slice_get ys k
  get_right [] ys k i is = ap (slice_get ys) (omega arith)
  get_right (x ∷ xs) ys k zero is = absurd (omega arith)
  get_right (x ∷ xs) ys k (suc i) is = get_right xs ys k i (omega arith)
