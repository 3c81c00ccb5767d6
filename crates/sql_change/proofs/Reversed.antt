-- What some item of a list passes, some item of the reversed list passes.
use Rattle.std.proofs.Common.{◌≡◌, ◌||◌, Bool, List, [], ◌∷◌, ◌++◌, map, reverse, refl, sym, ◌∙◌, ap}
use Rattle.std.specs.List.{list_any}
use Rattle.std.proofs.lemmas.List.Sorted.{list_any-IsPermutation, IsPermutation-reverse}
use Rattle.std.proofs.lemmas.List.{reverse-append}

pub any_reversed : {K : Type 0} (p : K → Bool) (xs : List K) → list_any p (reverse xs) ≡ list_any p xs
any_reversed p xs = sym (list_any-IsPermutation p xs (reverse xs) (IsPermutation-reverse xs))

pub any_mapped : {A K : Type 0} (p : K → Bool) (f : A → K) (xs : List A) → list_any p (map f xs) ≡ list_any (λ x. p (f x)) xs
any_mapped p f [] = refl
any_mapped p f (x ∷ xs) = ap (λ b. p (f x) || b) (any_mapped p f xs)

pub any_named : {A K : Type 0} (p : K → Bool) (f : A → K) (xs : List A) → list_any p (reverse (map f xs)) ≡ list_any (λ x. p (f x)) xs
any_named p f xs = any_reversed p (map f xs) ∙ any_mapped p f xs

pub reversed_push : {K : Type 0} (xs : List K) (x : K) → reverse (xs ++ x ∷ []) ≡ x ∷ reverse xs
reversed_push xs x = reverse-append xs (x ∷ [])
