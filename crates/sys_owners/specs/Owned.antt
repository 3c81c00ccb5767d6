-- What contracts see of the owners of the five areas.
use Rattle.std.specs.Prelude.{◌≡◌, Ok, Some}
use Rattle.bk_backup.specs.Saved as backups_area
use Rattle.db_store.specs.Store as rows_area
use Rattle.dl_areas.specs.Lists.{Journals, Lists, by_area}
use Rattle.dl_base.specs.Outside.{Outside}
use Rattle.dl_base.specs.declared.area.Area.{Area}
use Rattle.dl_base.specs.declared.area.Area.TheVariants as areas
use Rattle.fm_archive.specs.Stock as copies_area
use Rattle.fm_branch.specs.Linked as links_area
use Rattle.fm_manager.specs.Managed.{folds_with}
use Rattle.fs_files.specs.Store as files_area
use Rattle.meaning_areas.specs.Areas.{Areas, backups_of, branches_of, bytes_of, copies_of, rows_of}
use Rattle.meaning_areas.specs.FilesArea.{files_of}
use Rattle.meaning_areas.specs.Lists.{Folds}
use Rattle.sys_owners.specs.declared.owners.Owners.{Owners}

-- the commits of the database, the file manager, and the backups, each as its own contracts see it
abbrev pub Owned : Type 0
Owned = Owners

abbrev pub journals_of : Owned → Journals
journals_of w = by_area (rows_area.extent w.store) (links_area.extent w.manager.links) (files_area.extent w.manager.files) (copies_area.extent w.manager.archive) (backups_area.extent w.backups)

-- what the lists of the five areas stand for
abbrev pub folds_in : Owned → Folds
folds_in w = folds_with w.store.rows w.backups.backups w.manager

-- the lists stand for these
pub record AreFolded (lists : Lists) (f : Folds) : Type 0 where
  pub rows : rows_of (lists areas.Rows) ≡ Ok f.rows
  pub links : branches_of (lists areas.Links) ≡ Ok f.links
  pub files : files_of (lists areas.Files) ≡ Ok f.files
  pub copies : copies_of (lists areas.Archive) ≡ Ok f.copies
  pub backups : backups_of (lists areas.Backups) ≡ Ok f.backups

-- the areas read as these bytes
abbrev pub AreTold : Areas → Outside → Type 0
AreTold x o = (a : Area) → o.reads a ≡ Some (bytes_of x a)
