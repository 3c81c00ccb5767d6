-- One more record of a fold.
use Rattle.std.proofs.Common.{◌≡◌, ℕ, ◌+◌, ◌<◌, ◌≤◌, List, [], ◌∷◌, ◌++◌, length, get_or, take, drop, Bool, true, false, sym, ap, ◌∙◌, arith, Option, Some, None, Ok, Err}
use Rattle.std.proofs.lemmas.List.{take_more, drop_more, take-append-drop}
use Rattle.std.specs.Bool.{MatchBool}
use Rattle.std.specs.Option.{ok_or}
use Rattle.dl_journal.proofs.Records.{size-push}
use Rattle.dl_journal.specs.Records.{size}
use Rattle.meaning_areas.proofs.FoldLaws.{folded-err}
use Rattle.meaning_areas.specs.FilesArea.{files_step, files_of}
use Rattle.meaning_areas.specs.Folds.{folded}
use Rattle.meaning_files.specs.Files.{Files}

pub on_no : (b : Bool) (P Q : Type 0) → b ≡ false → MatchBool b P Q → Q
on_no true P Q is m = absurd cc
on_no false P Q is m = m

pub on_yes : (b : Bool) (P Q : Type 0) → b ≡ true → MatchBool b P Q → P
on_yes true P Q is m = m
on_yes false P Q is m = absurd cc

size-append : (xs ys : List (List ℕ)) → size (xs ++ ys) ≡ size xs + size ys
size-append [] ys = omega arith
size-append (x ∷ xs) ys = omega (arith, size-append xs ys)

module _ (items : List (List ℕ)) (i place : ℕ) (body : List ℕ) (d : List ℕ) (lt : i < length items) (is : body ≡ get_or items i d) where
  module _ (s : Files) (so_far : folded files_step place (Ok s) (drop i items) ≡ files_of items) where
    next : files_of items ≡ folded files_step (place + 9 + length body) (ok_or (files_step s body) place) (drop (i + 1) items)
    next =
        sym so_far ∙ ap (λ (l : List (List ℕ)). folded files_step place (Ok s) l) (drop_more items i d lt)
        ∙ ap (λ (b : List ℕ). folded files_step place (Ok s) (b ∷ drop (i + 1) items)) (sym is)

    pub refused : files_step s body ≡ None → files_of items ≡ Err place
    refused none =
        next ∙ ap (λ (o : Option Files). folded files_step (place + 9 + length body) (ok_or o place) (drop (i + 1) items)) none
        ∙ folded-err files_step (place + 9 + length body) place (drop (i + 1) items)

    pub accepted : (later : Files) → files_step s body ≡ Some later → folded files_step (place + (9 + length body)) (Ok later) (drop (i + 1) items) ≡ files_of items
    accepted later some =
        ap (λ (at : ℕ). folded files_step at (Ok later) (drop (i + 1) items)) (omega arith)
        ∙ ap (λ (o : Option Files). folded files_step (place + 9 + length body) (ok_or o place) (drop (i + 1) items)) (sym some)
        ∙ sym next

  pub place_next : place ≡ size (take i items) → place + (9 + length body) ≡ size (take (i + 1) items)
  place_next at =
      omega (arith, at, size-push (take i items) (get_or items i d), ap size (take_more items i d lt), ap length is)

  pub place_below : place ≡ size (take i items) → place + (9 + length body) ≤ size items
  place_below at = omega (arith, place_next at, size-append (take (i + 1) items) (drop (i + 1) items), ap size (take-append-drop (i + 1) items))
