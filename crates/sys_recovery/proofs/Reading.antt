-- WHAT IS WRITTEN IS READ: a record behind a list, several behind five, and the bytes of five lists.
use Rattle.std.proofs.Common.{◌≡◌, ℕ, List, [], ◌∷◌, refl, Option, Some, None, is_some, Result, Ok, sym, ◌∙◌, ap, subst}
use Rattle.std.specs.Option.{option_and_then}
use Rattle.dl_areas.specs.Lists.{HasLists, Lists, put, puts}
use Rattle.dl_base.specs.Outside.{CrashState}
use Rattle.dl_base.specs.declared.area.Area.{Area}
use Rattle.dl_base.specs.declared.area.Area.TheVariants as areas
use Rattle.dl_codec.proofs.Sound.{whole-spelling}
use Rattle.dl_codec.specs.Archive.{archive_record}
use Rattle.dl_codec.specs.Backups.{backup_record}
use Rattle.dl_codec.specs.Files.{files_record}
use Rattle.dl_codec.specs.Layout.{IsSound}
use Rattle.dl_codec.specs.Links.{links_record}
use Rattle.dl_codec.specs.Rows.{rows_record}
use Rattle.dl_codec.specs.declared.archive.ArchiveRecord.{ArchiveRecord}
use Rattle.dl_codec.specs.declared.backups.BackupRecord.{BackupRecord}
use Rattle.dl_codec.specs.declared.files.FilesRecord.{FilesRecord}
use Rattle.dl_codec.specs.declared.files.FilesRecord.TheVariants as changed
use Rattle.dl_codec.specs.declared.links.LinksRecord.{LinksRecord}
use Rattle.dl_codec.specs.declared.rows.RowsRecord.{RowsRecord}
use Rattle.dl_journal.proofs.Records.{records-at_rest}
use Rattle.dl_journal.specs.Records.{records}
use Rattle.fm_manager.specs.Managed.{AreSpelled, IsSpelled, as_write, as_writes}
use Rattle.meaning_areas.proofs.FoldLaws.{folded-accepted}
use Rattle.meaning_areas.specs.Areas.{AreasStand, backups_body, backups_of, branches_of, copies_body, copies_of, links_body, read_by, rows_body, rows_of, then}
use Rattle.meaning_areas.specs.Branches.{Branches, links_step, no_branches}
use Rattle.meaning_areas.specs.Commits.{Commits, no_commits, rows_step}
use Rattle.meaning_areas.specs.Copies.{Backup, backups_step, copies_step}
use Rattle.meaning_areas.specs.FilesArea as files_area
use Rattle.meaning_areas.specs.FilesArea.{files_of}
use Rattle.meaning_areas.specs.Lists.{Folds, Written, files_step, folds_on, folds_step, in_archive, in_backups, in_files, in_links, in_rows, no_folds, with_backups, with_copies, with_files, with_links, with_rows}
use Rattle.meaning_areas.specs.Stands.{IsStand, Stored}
use Rattle.meaning_files.specs.Files.{Files}
use Rattle.meaning_opening.proofs.Plain.{false_true, none_some, some_same}
use Rattle.meaning_settling.specs.Settling.{Copies}
use Rattle.sys_owners.proofs.Reading.{all-read, read-ok}
use Rattle.sys_owners.proofs.InARow.{some-first}
use Rattle.sys_owners.specs.Owned.{AreFolded}
use Rattle.sys_recovery.specs.Left.{areas_by, areas_of}

-- WHAT THE LAYOUTS PROMISE
pub record Sound : Type 0 where
  pub rows : IsSound rows_record
  pub links : IsSound links_record
  pub files : IsSound files_record
  pub archive : IsSound archive_record
  pub backups : IsSound backup_record

module _ (sound : Sound) where
  -- A SPELLING IS THE RECORD that it spells

  rows-read : (r : Commits) (x : RowsRecord) → rows_record.fits x → rows_body r (rows_record.spelling x) ≡ rows_step r x
  rows-read r x fits = ap (option_and_then (rows_step r)) (whole-spelling rows_record sound.rows x fits)

  links-read : (l : Branches) (x : LinksRecord) → links_record.fits x → links_body l (links_record.spelling x) ≡ links_step l x
  links-read l x fits = ap (option_and_then (links_step l)) (whole-spelling links_record sound.links x fits)

  files-read : (fs : Files) (x : FilesRecord) → files_record.fits x → files_area.files_step fs (files_record.spelling x) ≡ files_step fs x
  files-read fs (changed.Batch tx made) fits = ap (files_area.with_record fs) (whole-spelling files_record sound.files (changed.Batch tx made) fits)

  archive-read : (c : Copies) (x : ArchiveRecord) → archive_record.fits x → copies_body c (archive_record.spelling x) ≡ copies_step c x
  archive-read c x fits = ap (option_and_then (copies_step c)) (whole-spelling archive_record sound.archive x fits)

  backups-read : (b : List Backup) (x : BackupRecord) → backup_record.fits x → backups_body b (backup_record.spelling x) ≡ backups_step b x
  backups-read b x fits = ap (option_and_then (backups_step b)) (whole-spelling backup_record sound.backups x fits)

  -- ONE MORE RECORD behind lists that stand for something
  module _ (lists : Lists) (f g : Folds) (are : AreFolded lists f) where
    rows-more : (x : RowsRecord) → rows_record.fits x → (o : Option Commits) → rows_step f.rows x ≡ o → with_rows f o ≡ Some g → AreFolded (put (as_write (in_rows x)) lists) g
    rows-more x fits None is leads = absurd (none_some g leads)
    rows-more x fits (Some r) is leads = subst (λ (h : Folds). AreFolded (put (as_write (in_rows x)) lists) h) (some_same (record f { rows = r }) g leads) (record {
      rows = folded-accepted rows_body (lists areas.Rows) no_commits f.rows r (rows_record.spelling x) are.rows (rows-read f.rows x fits ∙ is);
      links = are.links;
      files = are.files;
      copies = are.copies;
      backups = are.backups;
    })

    links-more : (x : LinksRecord) → links_record.fits x → (o : Option Branches) → links_step f.links x ≡ o → with_links f o ≡ Some g → AreFolded (put (as_write (in_links x)) lists) g
    links-more x fits None is leads = absurd (none_some g leads)
    links-more x fits (Some l) is leads = subst (λ (h : Folds). AreFolded (put (as_write (in_links x)) lists) h) (some_same (record f { links = l }) g leads) (record {
      rows = are.rows;
      links = folded-accepted links_body (lists areas.Links) no_branches f.links l (links_record.spelling x) are.links (links-read f.links x fits ∙ is);
      files = are.files;
      copies = are.copies;
      backups = are.backups;
    })

    files-more : (x : FilesRecord) → files_record.fits x → (o : Option Files) → files_step f.files x ≡ o → with_files f o ≡ Some g → AreFolded (put (as_write (in_files x)) lists) g
    files-more x fits None is leads = absurd (none_some g leads)
    files-more x fits (Some fs) is leads = subst (λ (h : Folds). AreFolded (put (as_write (in_files x)) lists) h) (some_same (record f { files = fs }) g leads) (record {
      rows = are.rows;
      links = are.links;
      files = folded-accepted files_area.files_step (lists areas.Files) no_folds.files f.files fs (files_record.spelling x) are.files (files-read f.files x fits ∙ is);
      copies = are.copies;
      backups = are.backups;
    })

    archive-more : (x : ArchiveRecord) → archive_record.fits x → (o : Option Copies) → copies_step f.copies x ≡ o → with_copies f o ≡ Some g → AreFolded (put (as_write (in_archive x)) lists) g
    archive-more x fits None is leads = absurd (none_some g leads)
    archive-more x fits (Some c) is leads = subst (λ (h : Folds). AreFolded (put (as_write (in_archive x)) lists) h) (some_same (record f { copies = c }) g leads) (record {
      rows = are.rows;
      links = are.links;
      files = are.files;
      copies = folded-accepted copies_body (lists areas.Archive) no_folds.copies f.copies c (archive_record.spelling x) are.copies (archive-read f.copies x fits ∙ is);
      backups = are.backups;
    })

    backups-more : (x : BackupRecord) → backup_record.fits x → (o : Option (List Backup)) → backups_step f.backups x ≡ o → with_backups f o ≡ Some g → AreFolded (put (as_write (in_backups x)) lists) g
    backups-more x fits None is leads = absurd (none_some g leads)
    backups-more x fits (Some b) is leads = subst (λ (h : Folds). AreFolded (put (as_write (in_backups x)) lists) h) (some_same (record f { backups = b }) g leads) (record {
      rows = are.rows;
      links = are.links;
      files = are.files;
      copies = are.copies;
      backups = folded-accepted backups_body (lists areas.Backups) no_folds.backups f.backups b (backup_record.spelling x) are.backups (backups-read f.backups x fits ∙ is);
    })

    one-more : (x : Written) → IsSpelled x → folds_step f x ≡ Some g → AreFolded (put (as_write x) lists) g
    one-more (in_rows x) fits = rows-more x fits (rows_step f.rows x) refl
    one-more (in_links x) fits = links-more x fits (links_step f.links x) refl
    one-more (in_files x) fits = files-more x fits (files_step f.files x) refl
    one-more (in_archive x) fits = archive-more x fits (copies_step f.copies x) refl
    one-more (in_backups x) fits = backups-more x fits (backups_step f.backups x) refl

  -- SEVERAL
  pub more-folded : (xs : List Written) (lists : Lists) (f later : Folds) → AreFolded lists f → folds_on (Some f) xs ≡ Some later → AreSpelled xs → AreFolded (puts (as_writes xs) lists) later
  more-folded [] lists f later are leads fits = subst (λ (h : Folds). AreFolded lists h) (some_same f later leads) are
  more-folded (x ∷ xs) lists f later are leads fits = by (more-folded xs) (folds_step f x) refl leads
    where
      by : ((ls : Lists) (g h : Folds) → AreFolded ls g → folds_on (Some g) xs ≡ Some h → AreSpelled xs → AreFolded (puts (as_writes xs) ls) h)
          → (o : Option Folds) → folds_step f x ≡ o → folds_on o xs ≡ Some later → AreFolded (puts (as_writes (x ∷ xs)) lists) later
      by go None is on = absurd (false_true (some-first None xs (ap is_some on)))
      by go (Some g) is on = go (put (as_write x) lists) g later (one-more lists f g are x fits.0 is) on fits.1

-- THE BYTES OF FIVE LISTS stand for what these do
pub lists-stand : (lists : Lists) (f : Folds) (x : Stored) (p : CrashState) → AreFolded lists f → IsStand f x → HasLists lists p → AreasStand (areas_of p) x
lists-stand lists f x p are stand has =
    let list : (a : Area) → records (p.areas a) ≡ Ok (lists a) = λ a. records-at_rest (lists a) (p.areas a) (has a) in
    record {
      folds = f;
      are = all-read (areas_of p)
          f.rows (read-ok rows_of areas.Rows (records (p.areas areas.Rows)) (lists areas.Rows) f.rows (list areas.Rows) are.rows)
          f.links (read-ok branches_of areas.Links (records (p.areas areas.Links)) (lists areas.Links) f.links (list areas.Links) are.links)
          f.files (read-ok files_of areas.Files (records (p.areas areas.Files)) (lists areas.Files) f.files (list areas.Files) are.files)
          f.copies (read-ok copies_of areas.Archive (records (p.areas areas.Archive)) (lists areas.Archive) f.copies (list areas.Archive) are.copies)
          f.backups (read-ok backups_of areas.Backups (records (p.areas areas.Backups)) (lists areas.Backups) f.backups (list areas.Backups) are.backups);
      stand = stand;
    }

-- what the lists of five areas stand for
abbrev folds_by : (Area → Result (List (List ℕ)) ℕ) → Result Folds (Area × ℕ)
folds_by r =
    then (read_by rows_of areas.Rows (r areas.Rows)) (λ rows.
    then (read_by branches_of areas.Links (r areas.Links)) (λ links.
    then (read_by files_of areas.Files (r areas.Files)) (λ files.
    then (read_by copies_of areas.Archive (r areas.Archive)) (λ copies.
    then (read_by backups_of areas.Backups (r areas.Backups)) (λ backups.
    Ok (record { rows = rows; links = links; files = files; copies = copies; backups = backups }))))))

-- bytes that are the same lists stand for the same
pub same-lists-stand : (q p : Area → List ℕ) → ((a : Area) → records (q a) ≡ records (p a)) → (x : Stored) → AreasStand (areas_by q) x → AreasStand (areas_by p) x
same-lists-stand q p same x s = record { folds = s.folds; are = (λ i. folds_by (λ a. sym (same a) i)) ∙ s.are; stand = s.stand }
