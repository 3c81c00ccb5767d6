-- What areas stand for, list by list.
use Rattle.std.proofs.Common.{◌≡◌, ℕ, List, Result, Ok, Err, refl, sym, ◌∙◌, ap}
use Rattle.bk_backup.specs.Saved as backups_area
use Rattle.db_store.specs.Store as rows_area
use Rattle.dl_base.specs.Outside.{Outside}
use Rattle.dl_base.specs.declared.area.Area.{Area}
use Rattle.dl_base.specs.declared.area.Area.TheVariants as areas
use Rattle.dl_journal.specs.Open.{IsList}
use Rattle.dl_journal.specs.Records.{records}
use Rattle.fm_archive.specs.Stock as copies_area
use Rattle.fm_branch.specs.Linked as links_area
use Rattle.meaning_areas.specs.Areas.{Areas, backups_of, branches_of, bytes_of, copies_of, folds_of, read_by, rows_of, then}
use Rattle.meaning_areas.specs.Branches.{Branches}
use Rattle.meaning_areas.specs.Commits.{Commits}
use Rattle.meaning_areas.specs.Copies.{Backup}
use Rattle.meaning_areas.specs.FilesArea.{files_in, files_of, files_of_list}
use Rattle.meaning_areas.specs.Lists.{Folds}
use Rattle.meaning_files.specs.Files.{Files}
use Rattle.meaning_settling.specs.Settling.{Copies}
use Rattle.sys_owners.specs.Owned.{AreTold}

-- ONE LIST

abbrev Told : Type 0 → Type 0
Told S = Result S (Area × ℕ)

fold-of : {S : Type 0} (fold : List (List ℕ) → Result S ℕ) (area : Area) (bodies : List (List ℕ)) (r : Result S ℕ) → fold bodies ≡ r → read_by fold area (Ok bodies) ≡ read_by (λ (_ : List (List ℕ)). r) area (Ok bodies)
fold-of {S} fold area bodies r is = ap (λ (v : Result S ℕ). read_by (λ (_ : List (List ℕ)). v) area (Ok bodies)) is

pub read-ok : {S : Type 0} (fold : List (List ℕ) → Result S ℕ) (area : Area) (r : Result (List (List ℕ)) ℕ) (bodies : List (List ℕ)) (s : S) → r ≡ Ok bodies → fold bodies ≡ Ok s → read_by fold area r ≡ Ok s
read-ok fold area r bodies s is folds = ap (λ (v : Result (List (List ℕ)) ℕ). read_by fold area v) is ∙ fold-of fold area bodies (Ok s) folds

pub read-err : {S : Type 0} (fold : List (List ℕ) → Result S ℕ) (by : Result (List (List ℕ)) ℕ → Result S ℕ) (area : Area) (place : ℕ)
    → ((bodies : List (List ℕ)) → by (Ok bodies) ≡ fold bodies) → ((p : ℕ) → by (Err p) ≡ Err p)
    → (r : Result (List (List ℕ)) ℕ) → by r ≡ Err place → read_by fold area r ≡ Err (area, place)
read-err fold by area place oks errs (Ok bodies) is = fold-of fold area bodies (Err place) (sym (oks bodies) ∙ is)
read-err {S} fold by area place oks errs (Err p) is = ap (λ (n : ℕ). Err (area, n)) (same (sym (errs p) ∙ is))
  where
    same : ◌≡◌ {A = Result S ℕ} (Err p) (Err place) → p ≡ place
    same e = cc

-- FIVE LISTS

abbrev joined : Told Commits → Told Branches → Told Files → Told Copies → Told (List Backup) → Told Folds
joined r l f c b = then r (λ rows. then l (λ links. then f (λ files. then c (λ copies. then b (λ backups. Ok (record { rows = rows; links = links; files = files; copies = copies; backups = backups }))))))

module _ (x : Areas) where
  abbrev rows_read : Told Commits
  rows_read = read_by rows_of areas.Rows (records x.rows)

  abbrev links_read : Told Branches
  links_read = read_by branches_of areas.Links (records x.links)

  abbrev files_read : Told Files
  files_read = read_by files_of areas.Files (records x.files)

  abbrev copies_read : Told Copies
  copies_read = read_by copies_of areas.Archive (records x.archive)

  abbrev backups_read : Told (List Backup)
  backups_read = read_by backups_of areas.Backups (records x.backups)

  pub no-rows : (place : ℕ) → rows_area.rows_in x.rows ≡ Err place → folds_of x ≡ Err (areas.Rows, place)
  no-rows place is = ap (λ (v : Told Commits). joined v links_read files_read copies_read backups_read)
      (read-err rows_of rows_area.by_bodies areas.Rows place (λ _. refl) (λ _. refl) (records x.rows) is)

  module _ (r : Commits) (rows : rows_read ≡ Ok r) where
    over-rows : folds_of x ≡ joined (Ok r) links_read files_read copies_read backups_read
    over-rows = ap (λ (v : Told Commits). joined v links_read files_read copies_read backups_read) rows

    pub no-links : (place : ℕ) → links_area.links_in x.links ≡ Err place → folds_of x ≡ Err (areas.Links, place)
    no-links place is = over-rows ∙ ap (λ (v : Told Branches). joined (Ok r) v files_read copies_read backups_read)
        (read-err branches_of links_area.by_bodies areas.Links place (λ _. refl) (λ _. refl) (records x.links) is)

    module _ (l : Branches) (links : links_read ≡ Ok l) where
      over-links : folds_of x ≡ joined (Ok r) (Ok l) files_read copies_read backups_read
      over-links = over-rows ∙ ap (λ (v : Told Branches). joined (Ok r) v files_read copies_read backups_read) links

      pub no-files : (place : ℕ) → files_in x.files ≡ Err place → folds_of x ≡ Err (areas.Files, place)
      no-files place is = over-links ∙ ap (λ (v : Told Files). joined (Ok r) (Ok l) v copies_read backups_read)
          (read-err files_of files_of_list areas.Files place (λ _. refl) (λ _. refl) (records x.files) is)

      module _ (f : Files) (files : files_read ≡ Ok f) where
        over-files : folds_of x ≡ joined (Ok r) (Ok l) (Ok f) copies_read backups_read
        over-files = over-links ∙ ap (λ (v : Told Files). joined (Ok r) (Ok l) v copies_read backups_read) files

        pub no-copies : (place : ℕ) → copies_area.copies_told x.archive ≡ Err place → folds_of x ≡ Err (areas.Archive, place)
        no-copies place is = over-files ∙ ap (λ (v : Told Copies). joined (Ok r) (Ok l) (Ok f) v backups_read)
            (read-err copies_of copies_area.by_bodies areas.Archive place (λ _. refl) (λ _. refl) (records x.archive) is)

        module _ (c : Copies) (copies : copies_read ≡ Ok c) where
          over-copies : folds_of x ≡ joined (Ok r) (Ok l) (Ok f) (Ok c) backups_read
          over-copies = over-files ∙ ap (λ (v : Told Copies). joined (Ok r) (Ok l) (Ok f) v backups_read) copies

          pub no-backups : (place : ℕ) → backups_area.backups_told x.backups ≡ Err place → folds_of x ≡ Err (areas.Backups, place)
          no-backups place is = over-copies ∙ ap (λ (v : Told (List Backup)). joined (Ok r) (Ok l) (Ok f) (Ok c) v)
              (read-err backups_of backups_area.by_bodies areas.Backups place (λ _. refl) (λ _. refl) (records x.backups) is)

          pub all-read : (b : List Backup) → backups_read ≡ Ok b → folds_of x ≡ Ok (record { rows = r; links = l; files = f; copies = c; backups = b })
          all-read b backups = over-copies ∙ ap (λ (v : Told (List Backup)). joined (Ok r) (Ok l) (Ok f) (Ok c) v) backups

-- a list that was read behind the opening of others, which left its area
pub read-behind : {S : Type 0} (fold : List (List ℕ) → Result S ℕ) (area : Area) (x : Areas) (o m : Outside) (bodies : List (List ℕ)) (s : S)
    → AreTold x o → m.reads area ≡ o.reads area → IsList bodies (m.reads area) → fold bodies ≡ Ok s → read_by fold area (records (bytes_of x area)) ≡ Ok s
read-behind fold area x o m bodies s told still is folds = read-ok fold area (records (bytes_of x area)) bodies s (is (bytes_of x area) (still ∙ told area)) folds
