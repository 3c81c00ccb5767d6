-- RECORDS THAT HAVE SPELLINGS, by the lists that they are parts of.
use Rattle.std.proofs.Common.{◌≡◌, ℕ, ◌+◌, ◌<◌, ◌≤◌, ◌^◌, List, [], ◌∷◌, ◌++◌, length, drop, get_or, sym, ◌∙◌, ap, subst}
use Rattle.std.proofs.lemmas.List.{drop_all, drop_more}
use Rattle.dl_codec.specs.Archive.{archive_record}
use Rattle.dl_codec.specs.Layout.{u64}
use Rattle.dl_codec.specs.Links.{links_record}
use Rattle.dl_codec.specs.declared.archive.ArchiveRecord.TheVariants as archive_records
use Rattle.dl_codec.specs.declared.archive.FileCopy.{FileCopy}
use Rattle.dl_codec.specs.declared.links.LinksRecord.TheVariants as links_records
use Rattle.meaning_areas.specs.Finishing.{batch_of}
use Rattle.meaning_areas.specs.Lists.{Written, in_links}
use Rattle.fm_manager.specs.Managed.{AreSpelled, IsSpelled}
use Rattle.fm_manager.specs.Pieces.{Pieces, copies_written, settling_part}

pub spelled-both : (xs ys : List Written) → AreSpelled xs → AreSpelled ys → AreSpelled (xs ++ ys)
spelled-both [] ys first second = second
spelled-both (x ∷ xs) ys first second = (first.0, spelled-both xs ys first.1 second)

-- a Done, whose number is one of 64 bits
pub done-spelled : (tx : ℕ) → tx < 2 ^ 64 → IsSpelled (in_links (links_records.Done tx))
unfolding links_record u64
done-spelled tx small = small

-- THE COPIES, one after the other: all of them, where those are that are left
module _ (items all : List FileCopy) (i : ℕ) (same : items ≡ all) where
  pub copies-more : (c : FileCopy) → i < length items → c ≡ get_or items i c → archive_record.fits (archive_records.Copy c) → (AreSpelled (copies_written (drop i all)) → AreSpelled (copies_written all))
      → AreSpelled (copies_written (drop (i + 1) all)) → AreSpelled (copies_written all)
  copies-more c within is fits so_far later =
      let here : drop i items ≡ c ∷ drop (i + 1) items = drop_more items i c within ∙ ap (λ (x : FileCopy). x ∷ drop (i + 1) items) (sym is) in
      so_far (subst (λ (l : List FileCopy). AreSpelled (copies_written l)) (sym (ap (drop i) (sym same) ∙ here ∙ ap (λ (l : List FileCopy). c ∷ drop (i + 1) l) same)) (fits, later))

  pub copies-all : length items ≤ i → (AreSpelled (copies_written (drop i all)) → AreSpelled (copies_written all)) → AreSpelled (copies_written all)
  copies-all past so_far = so_far (subst (λ (l : List FileCopy). AreSpelled (copies_written l)) (sym (ap (drop i) (sym same) ∙ drop_all i items past)) tt)

-- what stands behind the mark of a Finish
pub settling-spelled : (p q : Pieces) → p ≡ q → AreSpelled (copies_written p.copies) → AreSpelled (batch_of p.tx p.changes) → IsSpelled (in_links (links_records.Done p.tx)) → AreSpelled (settling_part q.tx q.copies q.changes)
settling-spelled p q is copies batch done =
    subst (λ (r : Pieces). AreSpelled (settling_part r.tx r.copies r.changes)) is
    (spelled-both (copies_written p.copies) (batch_of p.tx p.changes ++ in_links (links_records.Done p.tx) ∷ []) copies (spelled-both (batch_of p.tx p.changes) (in_links (links_records.Done p.tx) ∷ []) batch (done, tt)))
