-- What contracts see of the backups that are open on a bench.
use Rattle.std.specs.Prelude.{ℕ, zero, suc, List, [], ◌∷◌, ◌++◌, Option, None, Result, Ok, Err, slice_get}
use Rattle.dl_areas.specs.Lists.{Write, write_of}
use Rattle.dl_base.specs.declared.area.Area.TheVariants as areas
use Rattle.dl_codec.specs.Backups.{backup_record}
use Rattle.dl_journal.specs.Extent.{Extent}
use Rattle.dl_journal.specs.Records.{records as bodies_in}
use Rattle.bk_backup.specs.Images.{record_of}
use Rattle.meaning_areas.specs.Areas.{backups_of}
use Rattle.meaning_areas.specs.Copies.{Backup}
use Rattle.meaning_tables.specs.Tables.{Tables}

-- The backups, in order, how many bytes their area has up to behind the closing gate, and how many it may have.
pub record Saved : Type 0 where
  pub backups : List Backup
  pub length : ℕ
  pub limit : ℕ

-- the journal of the area Backups
abbrev pub extent : Saved → Extent
extent s = record { area = areas.Backups; length = s.length; limit = s.limit }

-- what a list's bodies stand for; where it is none, the place of the first record that is none
abbrev pub by_bodies : Result (List (List ℕ)) ℕ → Result (List Backup) ℕ
by_bodies (Ok bodies) = backups_of bodies
by_bodies (Err place) = Err place

-- what the bytes of the area stand for, or the place of the first record that is none or that the fold refuses
abbrev pub backups_told : List ℕ → Result (List Backup) ℕ
backups_told told = by_bodies (bodies_in told)

-- the backup of a number, from 1
abbrev pub backup_numbered : List Backup → ℕ → Option Backup
backup_numbered backups zero = None
backup_numbered backups (suc n) = slice_get backups n

-- the backups with one more
abbrev pub with_backup : List Backup → ℕ → Tables → List Backup
with_backup backups commit tables = backups ++ record { commit = commit; tables = tables } ∷ []

-- its record
abbrev pub backup_write : List Backup → ℕ → Tables → Write
backup_write backups commit tables = write_of areas.Backups (backup_record.spelling (record_of backups commit tables)) None
