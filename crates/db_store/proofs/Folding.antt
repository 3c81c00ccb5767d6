-- One more record of a fold.
use Rattle.std.proofs.Common.{◌≡◌, ℕ, ◌+◌, ◌≤◌, List, ◌∷◌, length, sym, ap, ◌∙◌, arith, Option, Some, None, Ok, Err}
use Rattle.std.specs.Option.{ok_or}
use Rattle.dl_journal.specs.Records.{size}
use Rattle.meaning_areas.proofs.FoldLaws.{folded-err}
use Rattle.meaning_areas.specs.Areas.{rows_body, rows_of}
use Rattle.meaning_areas.specs.Commits.{Commits}
use Rattle.meaning_areas.specs.Folds.{folded}

module _ (all left rest : List (List ℕ)) (body : List ℕ) (place : ℕ) (is : left ≡ body ∷ rest) where
  module _ (s : Commits) (so_far : folded rows_body place (Ok s) left ≡ rows_of all) where
    next : rows_of all ≡ folded rows_body (place + 9 + length body) (ok_or (rows_body s body) place) rest
    next = sym so_far ∙ ap (λ (l : List (List ℕ)). folded rows_body place (Ok s) l) is

    pub refused : rows_body s body ≡ None → rows_of all ≡ Err place
    refused none =
        next ∙ ap (λ (o : Option Commits). folded rows_body (place + 9 + length body) (ok_or o place) rest) none
        ∙ folded-err rows_body (place + 9 + length body) place rest

    pub accepted : (later : Commits) → rows_body s body ≡ Some later → folded rows_body (place + (9 + length body)) (Ok later) rest ≡ rows_of all
    accepted later some =
        ap (λ (at : ℕ). folded rows_body at (Ok later) rest) (omega arith)
        ∙ ap (λ (o : Option Commits). folded rows_body (place + 9 + length body) (ok_or o place) rest) (sym some)
        ∙ sym next

  pub place_next : place + size left ≡ size all → place + (9 + length body) + size rest ≡ size all
  place_next at = omega (arith, at, ap size is)

  pub place_below : place + size left ≡ size all → place + (9 + length body) ≤ size all
  place_below at = omega (arith, at, ap size is)
