-- What is listed item by item.
use Rattle.std.proofs.Common.{◌≡◌, ℕ, ◌≤◌, List, ◌∷◌, ◌++◌, length, drop, Option, Some, None, append-nil, append_assoc, refl, sym, ap, ◌∙◌}
use Rattle.std.proofs.lemmas.List.{at_drop_all}
use Rattle.std.specs.List.{cons_option, filter_map}
use Rattle.std.specs.Option.{option_to_list}

module _ {A Y : Type 0} (f : A → Option Y) where
  -- what one more item gives, and what is left
  pub listed-turn : (made later all : List Y) (t u : List A) (x : A) → t ≡ x ∷ u → later ≡ made ++ option_to_list (f x) → made ++ filter_map f t ≡ all → later ++ filter_map f u ≡ all
  listed-turn made later all t u x split step so_far =
      ap (λ (l : List Y). l ++ filter_map f u) step ∙ append_assoc made (option_to_list (f x)) (filter_map f u) ∙ ap (λ (l : List Y). made ++ l) (by (f x))
      ∙ ap (λ (l : List A). made ++ filter_map f l) (sym split) ∙ so_far
    where
      by : (o : Option Y) → option_to_list o ++ filter_map f u ≡ cons_option o (filter_map f u)
      by None = refl
      by (Some y) = refl

  -- all that there was
  pub listed-end : (made all : List Y) (xs : List A) (i : ℕ) → length xs ≤ i → made ++ filter_map f (drop i xs) ≡ all → made ≡ all
  listed-end made all xs i past so_far = sym (append-nil made) ∙ ap (λ (l : List Y). made ++ l) (sym (at_drop_all (filter_map f) xs i past)) ∙ so_far
