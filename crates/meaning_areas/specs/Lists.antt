-- What the lists of all five areas stand for, each by itself.
use Rattle.std.specs.Prelude.{List, [], ◌∷◌, Option, Some, None}
use Rattle.std.specs.FinMap as maps
use Rattle.std.specs.Option.{option_and_then}
use Rattle.dl_codec.specs.declared.files.FilesRecord.{FilesRecord}
use Rattle.dl_codec.specs.declared.files.FilesRecord.TheVariants as changed
use Rattle.dl_codec.specs.declared.archive.ArchiveRecord.{ArchiveRecord}
use Rattle.dl_codec.specs.declared.backups.BackupRecord.{BackupRecord}
use Rattle.dl_codec.specs.declared.links.LinksRecord.{LinksRecord}
use Rattle.dl_codec.specs.declared.rows.RowsRecord.{RowsRecord}
use Rattle.meaning_files.specs.Files.{Files, with_changes}
use Rattle.meaning_settling.specs.Settling.{Copies}
use Rattle.meaning_areas.specs.Branches.{Branches, no_branches, links_step}
use Rattle.meaning_areas.specs.Commits.{Commits, no_commits, rows_step}
use Rattle.meaning_areas.specs.Copies.{Backup, copies_step, backups_step}

pub record Folds : Type 0 where
  pub rows : Commits
  pub links : Branches
  pub files : Files
  pub copies : Copies
  pub backups : List Backup

abbrev pub no_folds : Folds
no_folds = record { rows = no_commits; links = no_branches; files = maps.empty; copies = maps.empty; backups = [] }

-- a record of one of the areas
pub data Written : Type 0 where
  in_rows : RowsRecord → Written
  in_links : LinksRecord → Written
  in_files : FilesRecord → Written
  in_archive : ArchiveRecord → Written
  in_backups : BackupRecord → Written

abbrev pub with_rows : Folds → Option Commits → Option Folds
with_rows f None = None
with_rows f (Some r) = Some (record f { rows = r })

abbrev pub with_links : Folds → Option Branches → Option Folds
with_links f None = None
with_links f (Some l) = Some (record f { links = l })

abbrev pub with_files : Folds → Option Files → Option Folds
with_files f None = None
with_files f (Some fs) = Some (record f { files = fs })

abbrev pub with_copies : Folds → Option Copies → Option Folds
with_copies f None = None
with_copies f (Some c) = Some (record f { copies = c })

abbrev pub with_backups : Folds → Option (List Backup) → Option Folds
with_backups f None = None
with_backups f (Some b) = Some (record f { backups = b })

abbrev pub files_step : Files → FilesRecord → Option Files
files_step files (changed.Batch tx made) = with_changes files made

-- one more record
abbrev pub folds_step : Folds → Written → Option Folds
folds_step f (in_rows x) = with_rows f (rows_step f.rows x)
folds_step f (in_links x) = with_links f (links_step f.links x)
folds_step f (in_files x) = with_files f (files_step f.files x)
folds_step f (in_archive x) = with_copies f (copies_step f.copies x)
folds_step f (in_backups x) = with_backups f (backups_step f.backups x)

-- several, in order
abbrev pub folds_on : Option Folds → List Written → Option Folds
folds_on o [] = o
folds_on o (x ∷ xs) = folds_on (option_and_then (λ f. folds_step f x) o) xs
