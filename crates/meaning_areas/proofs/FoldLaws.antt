-- Laws of folds.
use Rattle.std.proofs.Common.{◌≡◌, ℕ, ◌+◌, List, [], ◌∷◌, ◌++◌, length, refl, ap, ◌∙◌, arith, Option, Some, Result, Ok, Err}
use Rattle.std.specs.Option.{ok_or}
use Rattle.dl_journal.specs.Records.{size}
use Rattle.meaning_areas.specs.Folds.{taken, folded}

-- one more record at the end
pub folded-push : {S : Type 0} (step : S → List ℕ → Option S) (place : ℕ) (r : Result S ℕ) (xs : List (List ℕ)) (body : List ℕ)
    → folded step place r (xs ++ body ∷ []) ≡ taken step (place + size xs) (folded step place r xs) body
folded-push step place r [] body = ap (λ (at : ℕ). taken step at r body) (omega arith)
folded-push step place r (x ∷ xs) body =
    folded-push step (place + 9 + length x) (taken step place r x) xs body
    ∙ ap (λ (at : ℕ). taken step at (folded step (place + 9 + length x) (taken step place r x) xs) body) (omega arith)

-- what was refused stays refused
pub folded-err : {S : Type 0} (step : S → List ℕ → Option S) (place earlier : ℕ) (xs : List (List ℕ)) → folded step place (Err earlier) xs ≡ Err earlier
folded-err step place earlier [] = refl
folded-err step place earlier (x ∷ xs) = folded-err step (place + 9 + length x) earlier xs

-- a record that is accepted
pub folded-accepted : {S : Type 0} (step : S → List ℕ → Option S) (xs : List (List ℕ)) (first s later : S) (body : List ℕ)
    → folded step 0 (Ok first) xs ≡ Ok s → step s body ≡ Some later → folded step 0 (Ok first) (xs ++ body ∷ []) ≡ Ok later
folded-accepted {S} step xs first s later body so_far accepted =
    folded-push step 0 (Ok first) xs body
    ∙ ap (λ (r : Result S ℕ). taken step (0 + size xs) r body) so_far
    ∙ ap (λ (o : Option S). ok_or o (0 + size xs)) accepted
