-- Lists gone through from the first item on: what is left of them.
use Rattle.std.proofs.Common.{◌≡◌, ℕ, zero, suc, ◌+◌, ◌<◌, ◌≤◌, List, [], ◌∷◌, length, None, Some, refl, sym, ◌∙◌, ap, arith, add-one, get_or, drop}
use Rattle.std.proofs.lemmas.List.{drop_more}
use Rattle.std.specs.List.{slice_get}
use Rattle.compare_every.proofs.Deciding.{some_same}

pub none_some : {A : Type 0} (x : A) → None ≡ Some x → ⊥
none_some x e = cc

module _ {A : Type 0} where
  pub got : (xs : List A) (i : ℕ) (d : A) → i < length xs → slice_get xs i ≡ Some (get_or xs i d)
  got [] i d lt = absurd (omega (arith, lt))
  got (x ∷ xs) zero d lt = refl
  got (x ∷ xs) (suc i) d lt = got xs i d (omega (arith, lt))

  -- what is left from a place on
  pub left : (items all : List A) (i : ℕ) (d : A) → items ≡ all → i < length items → d ≡ get_or items i d → drop i all ≡ d ∷ drop (i + 1) all
  left items all i d same within is =
      ap (λ (l : List A). drop i l) (sym same) ∙ drop_more items i d within ∙ ap (λ (x : A). x ∷ drop (i + 1) items) (sym is)
      ∙ ap (λ (l : List A). d ∷ drop (i + 1) l) same

  pub left-at : (xs : List A) (i : ℕ) (x : A) → slice_get xs i ≡ Some x → drop i xs ≡ x ∷ drop (i + 1) xs
  left-at [] i x at = absurd (none_some x at)
  left-at (y ∷ ys) zero x at = ap (λ (z : A). z ∷ ys) (some_same y x at)
  left-at (y ∷ ys) (suc i) x at = left-at ys i x at ∙ ap (λ (k : ℕ). x ∷ drop k ys) (add-one i) ∙ ap (λ (k : ℕ). x ∷ drop k (y ∷ ys)) (sym (add-one (suc i)))

  pub none-left : (xs : List A) (i : ℕ) → length xs ≤ i → drop i xs ≡ []
  none-left [] zero le = refl
  none-left [] (suc i) le = refl
  none-left (x ∷ xs) zero le = absurd (omega (arith, le))
  none-left (x ∷ xs) (suc i) le = none-left xs i (omega (arith, le))
