-- One more record of a fold.
use Rattle.std.proofs.Common.{◌≡◌, ℕ, ◌+◌, ◌<◌, ◌≤◌, List, [], ◌∷◌, ◌++◌, length, get_or, take, drop, sym, ap, ◌∙◌, arith, Option, Some, None, Ok, Err}
use Rattle.std.proofs.lemmas.List.{append_assoc, take_more, drop_more, take-append-drop}
use Rattle.std.specs.Option.{ok_or, option_and_then}
use Rattle.dl_codec.specs.Layout.{whole}
use Rattle.dl_codec.specs.Links.{links_record}
use Rattle.dl_codec.specs.declared.links.LinksRecord.{LinksRecord}
use Rattle.dl_journal.proofs.Records.{size-push}
use Rattle.dl_journal.specs.Records.{size}
use Rattle.meaning_areas.proofs.FoldLaws.{folded-err}
use Rattle.meaning_areas.specs.Areas.{links_body, branches_of}
use Rattle.meaning_areas.specs.Branches.{Branches, links_step}
use Rattle.meaning_areas.specs.Folds.{folded}
use Rattle.fm_branch.specs.Linked.{prepared_by, prepared_in}

size-append : (xs ys : List (List ℕ)) → size (xs ++ ys) ≡ size xs + size ys
size-append [] ys = omega arith
size-append (x ∷ xs) ys = omega (arith, size-append xs ys)

module _ (items : List (List ℕ)) (i place : ℕ) (body : List ℕ) (d : List ℕ) (lt : i < length items) (is : body ≡ get_or items i d) where
  module _ (s : Branches) (so_far : folded links_body place (Ok s) (drop i items) ≡ branches_of items) where
    next : branches_of items ≡ folded links_body (place + 9 + length body) (ok_or (links_body s body) place) (drop (i + 1) items)
    next =
        sym so_far ∙ ap (λ (l : List (List ℕ)). folded links_body place (Ok s) l) (drop_more items i d lt)
        ∙ ap (λ (b : List ℕ). folded links_body place (Ok s) (b ∷ drop (i + 1) items)) (sym is)

    pub refused : links_body s body ≡ None → branches_of items ≡ Err place
    refused none =
        next ∙ ap (λ (o : Option Branches). folded links_body (place + 9 + length body) (ok_or o place) (drop (i + 1) items)) none
        ∙ folded-err links_body (place + 9 + length body) place (drop (i + 1) items)

    pub accepted : (later : Branches) → links_body s body ≡ Some later → folded links_body (place + (9 + length body)) (Ok later) (drop (i + 1) items) ≡ branches_of items
    accepted later some =
        ap (λ (at : ℕ). folded links_body at (Ok later) (drop (i + 1) items)) (omega arith)
        ∙ ap (λ (o : Option Branches). folded links_body (place + 9 + length body) (ok_or o place) (drop (i + 1) items)) (sym some)
        ∙ sym next

  pub place_next : place ≡ size (take i items) → place + (9 + length body) ≡ size (take (i + 1) items)
  place_next at =
      omega (arith, at, size-push (take i items) (get_or items i d), ap size (take_more items i d lt), ap length is)

  pub place_below : place ≡ size (take i items) → place + (9 + length body) ≤ size items
  place_below at = omega (arith, place_next at, size-append (take (i + 1) items) (drop (i + 1) items), ap size (take-append-drop (i + 1) items))

-- the transactions that were prepared, behind one more record
pub prepared_next : (items : List (List ℕ)) (i : ℕ) (body : List ℕ) → i < length items → body ≡ get_or items i body → (was now : List ℕ)
    → was ++ prepared_in (drop i items) ≡ prepared_in items → now ≡ was ++ prepared_by (whole links_record body) → now ++ prepared_in (drop (i + 1) items) ≡ prepared_in items
prepared_next items i body lt is was now so_far more =
    ap (λ (l : List ℕ). l ++ prepared_in (drop (i + 1) items)) more
    ∙ append_assoc was (prepared_by (whole links_record body)) (prepared_in (drop (i + 1) items))
    ∙ ap (λ (b : List ℕ). was ++ prepared_in (b ∷ drop (i + 1) items)) is
    ∙ ap (λ (l : List (List ℕ)). was ++ prepared_in l) (sym (drop_more items i body lt))
    ∙ so_far

-- what a body gives that reads as a record

module _ (body : List ℕ) (read : Option LinksRecord) (x y : LinksRecord) (exact : read ≡ whole links_record body) (some : read ≡ Some x) (is : x ≡ y) where
  reads : whole links_record body ≡ Some y
  reads = sym exact ∙ some ∙ ap (λ (z : LinksRecord). Some z) is

  pub read_links : (l : Branches) (o : Option Branches) → links_step l y ≡ o → links_body l body ≡ o
  read_links l o step = ap (λ (r : Option LinksRecord). option_and_then (links_step l) r) reads ∙ step

  pub read_prepared : (was now : List ℕ) → now ≡ was ++ prepared_by (Some y) → now ≡ was ++ prepared_by (whole links_record body)
  read_prepared was now more = more ∙ ap (λ (r : Option LinksRecord). was ++ prepared_by r) (sym reads)
