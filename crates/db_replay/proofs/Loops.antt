-- What is left of a list in a loop.
use Rattle.std.proofs.Common.{◌≡◌, ℕ, ◌+◌, ◌<◌, ◌≤◌, ◌||◌, Bool, List, [], ◌∷◌, drop, get_or, length, map, refl, sym, ap, ◌∙◌}
use Rattle.std.specs.List.{list_any}
use Rattle.std.proofs.lemmas.List.{drop_all, drop_more}

pub next : {A : Type 0} (items all : List A) (i : ℕ) (d : A) → items ≡ all → i < length items → d ≡ get_or items i d → drop i all ≡ d ∷ drop (i + 1) all
next items all i d same within is = ap (λ xs. drop i xs) (sym same) ∙ drop_more items i d within ∙ ap (λ x. x ∷ drop (i + 1) items) (sym is) ∙ ap (λ xs. d ∷ drop (i + 1) xs) same

pub none_left : {A : Type 0} (items all : List A) (i : ℕ) → items ≡ all → length items ≤ i → drop i all ≡ []
none_left items all i same past = ap (λ xs. drop i xs) (sym same) ∙ drop_all i items past

pub any_mapped : {A K : Type 0} (p : K → Bool) (f : A → K) (xs : List A) → list_any p (map f xs) ≡ list_any (λ x. p (f x)) xs
any_mapped p f [] = refl
any_mapped p f (x ∷ xs) = ap (λ b. p (f x) || b) (any_mapped p f xs)
