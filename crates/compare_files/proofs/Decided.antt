-- THE COMPARISONS AT FILES AND ARCHIVE, from what is held in memory to any five lists that have it.
use Rattle.std.proofs.Common.{◌≡◌, ℕ, Bool, ◌&&◌, ◌||◌, not, List, [], map, is_some, sym, ◌∙◌, ap, subst}
use Rattle.std.proofs.lemmas.List.Folds.{list_all-map}
use Rattle.std.specs.Bool.{Decides}
use Rattle.std.specs.FinMap as maps
use Rattle.std.specs.List.{list_all}
use Rattle.dl_base.specs.declared.area.Area.TheVariants as areas
use Rattle.dl_base.specs.declared.value.LinkNo.{LinkNo}
use Rattle.dl_base.specs.declared.value.LinkRow.{LinkRow}
use Rattle.compare_files.specs.Copies.{all_stand, archived_by, has_bytes, is_archived, is_recovered, stands_at}
use Rattle.compare_every.specs.Every.{IsEvery}
use Rattle.compare_files.specs.Numbers.{IsNumbersOf}
use Rattle.compare_files.specs.Overlay.{IsOverlayOf, Overlay, copy_at, file_at}
use Rattle.compare_files.proofs.Archived.{all-fit, fits-bytes, fits-every, fits-given, fits-stored}
use Rattle.compare_files.proofs.HaveFiles.{all, both, files-fit}
use Rattle.compare_files.proofs.Turns.{all-same}
use Rattle.compare_files.proofs.Values.{each-value, values-pass}
use Rattle.meaning_areas.specs.Areas.{ComparesAt}
use Rattle.meaning_areas.specs.Branches.{Branches}
use Rattle.meaning_areas.specs.Commits.{Commits, tables_after}
use Rattle.meaning_areas.specs.Lists.{Folds}
use Rattle.meaning_areas.specs.Stands.{open_in, txs_of}
use Rattle.meaning_files.specs.Files.{Files}
use Rattle.meaning_settling.specs.Keyed.{Keyed}
use Rattle.meaning_settling.specs.Settling.{Copies, link_key}
use Rattle.meaning_tables.specs.Links.{links}

module _ (rows : Commits) (ls : Branches) (fs : Files) (cs : Copies) (o : Overlay) (is : IsOverlayOf (open_in ls) (txs_of rows.commits) o) where
  overlay-of : (f : Folds) → f.rows ≡ rows → f.links ≡ ls → IsOverlayOf (open_in f.links) (txs_of f.rows.commits) o
  overlay-of f of_rows of_links =
      let P : Branches → Type 0 = λ x. IsOverlayOf (open_in x) (txs_of rows.commits) o in
      let Q : Commits → Type 0 = λ x. IsOverlayOf (open_in f.links) (txs_of x.commits) o in
      subst Q (sym of_rows) (subst P (sym of_links) is)

  pub files-decide : (r : Bool) → r ≡ list_all (λ l. is_some (file_at o fs cs l.path)) (links (tables_after [] rows.commits))
      → (f : Folds) → f.rows ≡ rows → f.links ≡ ls → f.files ≡ fs → f.copies ≡ cs → ComparesAt f areas.Links → Decides r (ComparesAt f areas.Files)
  files-decide r value f of_rows of_links of_files of_copies fit =
      let same : r ≡ list_all (λ l. is_some (file_at o f.files f.copies l.path)) (links (tables_after [] f.rows.commits)) =
      value ∙ (λ i. list_all (λ l. is_some (file_at o (sym of_files i) (sym of_copies i) l.path)) (links (tables_after [] (sym of_rows i).commits))) in
      subst (λ (b : Bool). Decides b (ComparesAt f areas.Files)) (sym same) (files-fit f o fit (overlay-of f of_rows of_links))

  -- the four tests of copies
  abbrev pub CopiesFit : Keyed LinkRow → List LinkNo → Bool
  CopiesFit every stored =
      all_stand (stands_at o fs cs every) (open_in ls) (txs_of rows.commits)
      && list_all (λ l. is_recovered (maps.get every (link_key l))) stored
      && list_all (is_archived o fs cs (links (tables_after [] rows.commits))) (maps.values every)
      && list_all (has_bytes o fs cs) (links (tables_after [] rows.commits))

  pub copies-decide : (every : Keyed LinkRow) (stored : List LinkNo) → map link_key stored ≡ maps.keys cs → (r : Bool) → r ≡ CopiesFit every stored
      → (f : Folds) → f.rows ≡ rows → f.links ≡ ls → f.files ≡ fs → f.copies ≡ cs → IsEvery f.rows.commits every → ComparesAt f areas.Links → Decides r (ComparesAt f areas.Archive)
  copies-decide every stored keys r value f of_rows of_links of_files of_copies is_every fit =
      let over = overlay-of f of_rows of_links in
      let given : all_stand (stands_at o f.files f.copies every) (open_in f.links) (txs_of f.rows.commits) ≡ all_stand (stands_at o fs cs every) (open_in ls) (txs_of rows.commits) =
      λ i. all_stand (stands_at o (of_files i) (of_copies i) every) (open_in (of_links i)) (txs_of (of_rows i).commits) in
      let kept : list_all (λ n. is_recovered (maps.get every n)) (maps.keys f.copies) ≡ list_all (λ l. is_recovered (maps.get every (link_key l))) stored =
      ap (λ (c : Copies). list_all (λ n. is_recovered (maps.get every n)) (maps.keys c)) of_copies ∙ ap (list_all (λ n. is_recovered (maps.get every n))) (sym keys)
      ∙ list_all-map (λ n. is_recovered (maps.get every n)) link_key stored in
      let archived : list_all (is_archived o f.files f.copies (links (tables_after [] f.rows.commits))) (maps.values every) ≡ list_all (is_archived o fs cs (links (tables_after [] rows.commits))) (maps.values every) =
      λ i. list_all (is_archived o (of_files i) (of_copies i) (links (tables_after [] (of_rows i).commits))) (maps.values every) in
      let bytes : list_all (has_bytes o f.files f.copies) (links (tables_after [] f.rows.commits)) ≡ list_all (has_bytes o fs cs) (links (tables_after [] rows.commits)) =
      λ i. list_all (has_bytes o (of_files i) (of_copies i)) (links (tables_after [] (of_rows i).commits)) in (
        (λ e.
            let last = both (all_stand (stands_at o fs cs every) (open_in ls) (txs_of rows.commits) && list_all (λ l. is_recovered (maps.get every (link_key l))) stored && list_all (is_archived o fs cs (links (tables_after [] rows.commits))) (maps.values every)) _ (sym value ∙ e) in
            let third = both (all_stand (stands_at o fs cs every) (open_in ls) (txs_of rows.commits) && list_all (λ l. is_recovered (maps.get every (link_key l))) stored) _ last.0 in
            let first = both (all_stand (stands_at o fs cs every) (open_in ls) (txs_of rows.commits)) _ third.0 in
            all-fit f fit o over every is_every (given ∙ first.0) (kept ∙ first.1)
            (values-pass (is_archived o f.files f.copies (links (tables_after [] f.rows.commits))) every (archived ∙ third.1))
            (bytes ∙ last.1)),
        (λ fits.
            value ∙ all _ _
            (all _ _
            (all _ _ (sym given ∙ fits-given f fit o over every is_every fits) (sym kept ∙ fits-stored f fit o over every is_every fits))
            (sym archived ∙ each-value (is_archived o f.files f.copies (links (tables_after [] f.rows.commits))) every (fits-every f fit o over every is_every fits)))
            (sym bytes ∙ fits-bytes f fit o over every is_every fits)),
      )

-- a test by the numbers of links is one by these
pub archived-by : (o : Overlay) (fs : Files) (cs : Copies) (linked : List LinkRow) (numbers : List (List ℕ)) → IsNumbersOf linked numbers → (xs : List LinkRow)
    → list_all (archived_by o fs cs numbers) xs ≡ list_all (is_archived o fs cs linked) xs
archived-by o fs cs linked numbers is xs = all-same (archived_by o fs cs numbers) (is_archived o fs cs linked)
    (λ x. ap (λ b. not x.options.recovery || b || is_some (copy_at o fs cs (link_key x.link))) (is (link_key x.link))) xs
