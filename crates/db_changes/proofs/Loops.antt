-- One more item that a loop writes.
use Rattle.std.proofs.Common.{◌≡◌, ℕ, zero, suc, ◌+◌, ◌<◌, List, [], ◌∷◌, ◌++◌, drop, get_or, length, map, set, take, ◌∙◌, ap, arith, subst}

module _ {A : Type 0} where
  -- the items that are written so far, and those that are left
  written : (f : A → A) (xs : List A) (i : ℕ) (x : A) → i < length (map f (take i xs) ++ drop i xs) → x ≡ get_or (map f (take i xs) ++ drop i xs) i x → set (map f (take i xs) ++ drop i xs) i (f x) ≡ map f (take (suc i) xs) ++ drop (suc i) xs
  written f [] zero x lt is = absurd (omega (arith, lt))
  written f [] (suc i) x lt is = absurd (omega (arith, lt))
  written f (y ∷ ys) zero x lt is = ap (λ z. f z ∷ ys) is
  written f (y ∷ ys) (suc i) x lt is = ap (λ zs. f y ∷ zs) (written f ys i x (omega (arith, lt)) is)

  pub next_written : (f : A → A) (xs items : List A) (i : ℕ) (x v : A) → items ≡ map f (take i xs) ++ drop i xs → i < length items → x ≡ get_or items i x → v ≡ f x → set items i v ≡ map f (take (i + 1) xs) ++ drop (i + 1) xs
  next_written f xs items i x v so_far lt is made =
      let next : suc i ≡ i + 1 = omega arith in
      ap (set items i) made ∙ ap (λ zs. set zs i (f x)) so_far
      ∙ written f xs i x (subst (λ zs. i < length zs) so_far lt) (is ∙ ap (λ zs. get_or zs i x) so_far)
      ∙ ap (λ j. map f (take j xs) ++ drop j xs) next
