-- One more record of a fold.
use Rattle.std.proofs.Common.{◌≡◌, ℕ, ◌+◌, ◌<◌, ◌≤◌, List, [], ◌∷◌, ◌++◌, length, get_or, take, drop, sym, ap, ◌∙◌, arith, Option, Some, None, Ok, Err}
use Rattle.std.proofs.lemmas.List.{take_more, drop_more, take-append-drop}
use Rattle.std.specs.Option.{ok_or}
use Rattle.dl_journal.proofs.Records.{size-push}
use Rattle.dl_journal.specs.Records.{size}
use Rattle.meaning_areas.proofs.FoldLaws.{folded-err}
use Rattle.meaning_areas.specs.Areas.{backups_body, backups_of}
use Rattle.meaning_areas.specs.Copies.{Backup}
use Rattle.meaning_areas.specs.Folds.{folded}

size-append : (xs ys : List (List ℕ)) → size (xs ++ ys) ≡ size xs + size ys
size-append [] ys = omega arith
size-append (x ∷ xs) ys = omega (arith, size-append xs ys)

module _ (items : List (List ℕ)) (i place : ℕ) (body : List ℕ) (d : List ℕ) (lt : i < length items) (is : body ≡ get_or items i d) where
  module _ (s : List Backup) (so_far : folded backups_body place (Ok s) (drop i items) ≡ backups_of items) where
    next : backups_of items ≡ folded backups_body (place + 9 + length body) (ok_or (backups_body s body) place) (drop (i + 1) items)
    next =
        sym so_far ∙ ap (λ (l : List (List ℕ)). folded backups_body place (Ok s) l) (drop_more items i d lt)
        ∙ ap (λ (b : List ℕ). folded backups_body place (Ok s) (b ∷ drop (i + 1) items)) (sym is)

    pub refused : backups_body s body ≡ None → backups_of items ≡ Err place
    refused none =
        next ∙ ap (λ (o : Option (List Backup)). folded backups_body (place + 9 + length body) (ok_or o place) (drop (i + 1) items)) none
        ∙ folded-err backups_body (place + 9 + length body) place (drop (i + 1) items)

    pub accepted : (later : List Backup) → backups_body s body ≡ Some later → folded backups_body (place + (9 + length body)) (Ok later) (drop (i + 1) items) ≡ backups_of items
    accepted later some =
        ap (λ (at : ℕ). folded backups_body at (Ok later) (drop (i + 1) items)) (omega arith)
        ∙ ap (λ (o : Option (List Backup)). folded backups_body (place + 9 + length body) (ok_or o place) (drop (i + 1) items)) (sym some)
        ∙ sym next

  pub place_next : place ≡ size (take i items) → place + (9 + length body) ≡ size (take (i + 1) items)
  place_next at =
      omega (arith, at, size-push (take i items) (get_or items i d), ap size (take_more items i d lt), ap length is)

  pub place_below : place ≡ size (take i items) → place + (9 + length body) ≤ size items
  place_below at = omega (arith, place_next at, size-append (take (i + 1) items) (drop (i + 1) items), ap size (take-append-drop (i + 1) items))
