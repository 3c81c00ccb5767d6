-- Who has acted, has acted.
use Rattle.std.proofs.Common.{◌≡◌, ℕ, ◌||◌, Bool, true, false, cond, List, [], ◌∷◌, ◌++◌, length, nat_le, bytes_eq, Option, Some, None, refl, ap, ◌∙◌}
use Rattle.std.proofs.lemmas.List.Folds.{list_any-append}
use Rattle.std.proofs.lemmas.Slice.Eq.{bytes_eq-Decides}
use Rattle.std.specs.List.{list_any}
use Rattle.dl_base.specs.Limits.{most_actors}
use Rattle.meaning_script.specs.Actors.{is_known, with_actor}

or-true : (a b : Bool) → a ≡ true → (a || b) ≡ true
or-true a b is = ap (λ c. c || b) is

or-last : (a : Bool) → (a || true) ≡ true
or-last true = refl
or-last false = refl

pub known-last : (actors : List (List ℕ)) (a : List ℕ) → is_known (actors ++ a ∷ []) a ≡ true
known-last actors a =
    list_any-append (bytes_eq a) actors (a ∷ [])
    ∙ ap (λ b. list_any (bytes_eq a) actors || (b || false)) ((bytes_eq-Decides a a).1 refl)
    ∙ or-last (list_any (bytes_eq a) actors)

-- with an actor twice is with it once
pub acted : (actors : List (List ℕ)) (o : Option (List ℕ)) → with_actor (with_actor actors o) o ≡ with_actor actors o
acted actors None = refl
acted actors (Some a) = by (is_known actors a || nat_le most_actors (length actors)) refl
  where
    by : (b : Bool) → (is_known actors a || nat_le most_actors (length actors)) ≡ b → with_actor (cond b actors (actors ++ a ∷ [])) (Some a) ≡ cond b actors (actors ++ a ∷ [])
    by true is = ap (λ b. cond b actors (actors ++ a ∷ [])) is
    by false is = ap (λ b. cond b (actors ++ a ∷ []) ((actors ++ a ∷ []) ++ a ∷ [])) (or-true (is_known (actors ++ a ∷ []) a) (nat_le most_actors (length (actors ++ a ∷ []))) (known-last actors a))
