-- What contracts see of the file manager: three of the five areas, and what a call of it does to them.
use Rattle.std.specs.Prelude.{◌≡◌, ◌≤◌, List, [], ◌∷◌, map, refl, Option, Some, None, is_some, true}
use Rattle.std.specs.Coded.{Coded, code_by, coded×}
use Rattle.dl_areas.specs.Batch.{writes_in}
use Rattle.dl_areas.specs.Lists.{Journals, Write, AreReady}
use Rattle.dl_areas.specs.Writing.{Does, Ends}
use Rattle.dl_base.specs.Outside.{Outside}
use Rattle.dl_base.specs.declared.area.Area.TheVariants as areas
use Rattle.dl_base.specs.declared.fault.AppendFault.{AppendFault}
use Rattle.dl_base.specs.declared.fault.StepFault.{StepFault}
use Rattle.dl_base.specs.declared.file.FileCmd.{FileCmd}
use Rattle.dl_codec.specs.Archive.{archive_record}
use Rattle.dl_codec.specs.Backups.{backup_record}
use Rattle.dl_codec.specs.Files.{files_record}
use Rattle.dl_codec.specs.Links.{links_record}
use Rattle.dl_codec.specs.Rows.{rows_record}
use Rattle.dl_journal.specs.Open.{IsOpen}
use Rattle.fm_archive.specs.Stock.{Stock, stock_code}
use Rattle.fm_archive.specs.Stock as copies_area
use Rattle.fm_branch.specs.Linked.{Linked, linked_code}
use Rattle.fm_branch.specs.Linked as links_area
use Rattle.fs_files.specs.Store.{Catalog, catalog_code}
use Rattle.fs_files.specs.Store as files_area
use Rattle.meaning_areas.specs.Commits.{Commits}
use Rattle.meaning_areas.specs.Copies.{Backup}
use Rattle.meaning_areas.specs.FilesArea.{writes}
use Rattle.meaning_areas.specs.Lists.{Folds, Written, folds_on, in_archive, in_backups, in_files, in_links, in_rows}
use Rattle.meaning_settling.specs.Settling.{Kept}
use Rattle.meaning_areas.specs.Full.{body_of, number_full}

-- The branches and held links, the files, and the archived copies, each with its area.
pub record Managed : Type 0 where
  pub links : Linked
  pub files : Catalog
  pub archive : Stock

abbrev pub managed_code : Coded Managed
managed_code = code_by (Linked × (Catalog × Stock)) (coded× linked_code (coded× catalog_code stock_code)) (λ m. (m.links, (m.files, m.archive))) (λ p. record { links = p.0; files = p.1.0; archive = p.1.1 }) (λ _. refl)

-- what its lists stand for, beside these of the database
abbrev pub folds_with : Commits → List Backup → Managed → Folds
folds_with rows backups m = record { rows = rows; links = m.links.links; files = m.files.files; copies = m.archive.copies; backups = backups }

-- what settling changes, as it is
abbrev pub kept_in : Managed → Kept
kept_in m = record { files = m.files.files; copies = m.archive.copies; held = m.links.links.held }

-- five journals, with its three in their places
abbrev pub with_managed : Managed → Journals → Journals
with_managed m js areas.Rows = js areas.Rows
with_managed m js areas.Links = links_area.extent m.links
with_managed m js areas.Files = files_area.extent m.files
with_managed m js areas.Archive = copies_area.extent m.archive
with_managed m js areas.Backups = js areas.Backups

-- the closing gate of each of the three is there
pub record AreOpen (m : Managed) (o : Outside) : Type 0 where
  pub links : IsOpen (links_area.extent m.links) o
  pub files : IsOpen (files_area.extent m.files) o
  pub archive : IsOpen (copies_area.extent m.archive) o

-- A CALL OF THE MANAGER writes these records, whatever journals the database has.
pub record Manages (m n : Managed) (ws : List Write) (fault : Option AppendFault) (o e : Outside) : Type 0 where
  pub opens : fault ≡ None → AreOpen m o → AreOpen n e
  pub does : (js : Journals) → AreReady js o → with_managed m js ≡ js → Does js (with_managed n js) ws fault o e

-- the same of a step
pub record ManagesStep (m n : Managed) (ws : List Write) (fault : Option StepFault) (o e : Outside) : Type 0 where
  pub opens : fault ≡ None → AreOpen m o → AreOpen n e
  pub ends : (js : Journals) → AreReady js o → with_managed m js ≡ js → Ends js (with_managed n js) ws fault o e

-- records as they are written
abbrev pub as_write : Written → Write
as_write x = record { area = (body_of x).0; body = (body_of x).1; exhausted = number_full x }

abbrev pub as_writes : List Written → List Write
as_writes xs = map as_write xs

-- A RECORD HAS A SPELLING: no text and no list in it is too long, and no number too great. What is written has one, and is read as what it was.
abbrev pub IsSpelled : Written → Type 0
IsSpelled (in_rows x) = rows_record.fits x
IsSpelled (in_links x) = links_record.fits x
IsSpelled (in_files x) = files_record.fits x
IsSpelled (in_archive x) = archive_record.fits x
IsSpelled (in_backups x) = backup_record.fits x

abbrev pub AreSpelled : List Written → Type 0
AreSpelled [] = Unit {0}
AreSpelled (x ∷ xs) = IsSpelled x × AreSpelled xs

-- these records lead from what the lists of one stand for to what those of the other do, whatever the database has
abbrev pub FoldsTo : Managed → Managed → List Written → Type 0
FoldsTo m n xs = (rows : Commits) (backups : List Backup) → folds_on (Some (folds_with rows backups m)) xs ≡ Some (folds_with rows backups n)

-- the folds take these records
abbrev pub IsTakenBy : Managed → List Written → Type 0
IsTakenBy m xs = (rows : Commits) (backups : List Backup) → is_some (folds_on (Some (folds_with rows backups m)) xs) ≡ true

-- the same, with no less room
pub record Roomier (m n : Managed) : Type 0 where
  pub same : n ≡ record m { files = record m.files { spare = n.files.spare }; archive = record m.archive { spare = n.archive.spare } }
  pub files : m.files.spare ≤ n.files.spare
  pub copies : m.archive.spare ≤ n.archive.spare

-- what a command of a user writes
abbrev pub command_writes : Managed → FileCmd → List Write
command_writes m cmd = writes_in areas.Files (writes m.files.files cmd)
