-- Tests of the items of lists.
use Rattle.std.proofs.Common.{◌≡◌, ℕ, ◌+◌, ◌<◌, Bool, true, false, ◌&&◌, List, [], ◌∷◌, ◌++◌, length, get_or, take, drop, refl, sym, ap, ◌∙◌}
use Rattle.std.proofs.lemmas.Bool.{and_from, and_parts}
use Rattle.std.proofs.lemmas.List.{drop_more, take_more}
use Rattle.std.specs.List.{list_all}

module _ {A : Type 0} (p : A → Bool) where
  all-push : (xs : List A) (d : A) → list_all p xs ≡ true → p d ≡ true → list_all p (xs ++ d ∷ []) ≡ true
  all-push [] d all passes = and_from (p d) true passes refl
  all-push (x ∷ xs) d all passes =
      let parts = and_parts (p x) (list_all p xs) all in
      and_from (p x) (list_all p (xs ++ d ∷ [])) parts.0 (all-push xs d parts.1 passes)

  -- one more of the first items passes
  pub all-first : (xs : List A) (i : ℕ) (d : A) → i < length xs → d ≡ get_or xs i d → list_all p (take i xs) ≡ true → p d ≡ true → list_all p (take (i + 1) xs) ≡ true
  all-first xs i d within is all passes =
      ap (λ (l : List A). list_all p l) (take_more xs i d within)
      ∙ ap (λ (x : A). list_all p (take i xs ++ x ∷ [])) (sym is) ∙ all-push (take i xs) d all passes

-- a loop that ends at the first item that fails
module _ {A : Type 0} (p : A → Bool) (xs all : List A) (i : ℕ) (d : A) (same : xs ≡ all) (within : i < length xs) (is : d ≡ get_or xs i d) where
  left : drop i all ≡ d ∷ drop (i + 1) all
  left =
      ap (λ (l : List A). drop i l) (sym same) ∙ drop_more xs i d within ∙ ap (λ (x : A). x ∷ drop (i + 1) xs) (sym is)
      ∙ ap (λ (l : List A). d ∷ drop (i + 1) l) same

  all-left : list_all p (drop i all) ≡ (p d && list_all p (drop (i + 1) all))
  all-left = ap (λ (l : List A). list_all p l) left

  pub all-on : p d ≡ true → list_all p (drop i all) ≡ list_all p all → list_all p (drop (i + 1) all) ≡ list_all p all
  all-on passes so_far = sym (ap (λ b. b && list_all p (drop (i + 1) all)) passes) ∙ sym all-left ∙ so_far

  pub all-off : p d ≡ false → list_all p (drop i all) ≡ list_all p all → false ≡ list_all p all
  all-off fails so_far = sym (ap (λ b. b && list_all p (drop (i + 1) all)) fails) ∙ sym all-left ∙ so_far

-- what passes one test passes another
pub all-more : {A : Type 0} (p q : A → Bool) → ((x : A) → p x ≡ true → q x ≡ true) → (xs : List A) → list_all p xs ≡ true → list_all q xs ≡ true
all-more p q more [] all = refl
all-more p q more (x ∷ xs) all =
    let parts = and_parts (p x) (list_all p xs) all in
    and_from (q x) (list_all q xs) (more x parts.0) (all-more p q more xs parts.1)
