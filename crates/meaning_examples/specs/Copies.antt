-- What the records of the areas Archive and Backups stand for.
use Rattle.std.specs.Prelude.{ℕ, ◌+◌, ◌==◌, ◌&&◌, Bool, nat_lt, if◌then◌else◌, List, [], ◌∷◌, ◌++◌, length, map, bytes_eq, Option, Some, None}
use Rattle.meaning_examples.specs.Maps as maps
use Rattle.std.specs.List.{list_all}
use Rattle.meaning_examples.specs.UserFiles.{sha256}
use Rattle.dl_codec.specs.declared.archive.ArchiveRecord.{ArchiveRecord}
use Rattle.dl_codec.specs.declared.archive.ArchiveRecord.TheVariants as archived
use Rattle.dl_codec.specs.declared.backups.BackupRecord.{BackupRecord}
use Rattle.dl_codec.specs.declared.backups.BackupRecord.TheVariants as backed
use Rattle.dl_codec.specs.declared.archive.FileCopy.{FileCopy}
use Rattle.dl_codec.specs.declared.backups.TableImage.{TableImage}
use Rattle.meaning_examples.specs.Settling.{Copy, Copies, link_key}
use Rattle.meaning_tables.specs.Fits.{differ}
use Rattle.meaning_tables.specs.Tables.{Rows, Tables}
use Rattle.meaning_examples.specs.Commits.{rising}

abbrev pub copy_of : FileCopy → Copy
copy_of c = record { owner = c.owner; bytes = c.bytes }

-- one more copy: its link has none yet, and the digest is that of its bytes
abbrev pub copies_on : Copies → FileCopy → Option Copy → Option Copies
copies_on copies c (Some earlier) = None
copies_on copies c None = if bytes_eq c.digest (sha256 c.bytes) then Some (maps.insert copies (link_key c.link) (copy_of c)) else None

abbrev pub copies_step : Copies → ArchiveRecord → Option Copies
copies_step copies (archived.Copy c) = copies_on copies c (maps.get copies (link_key c.link))

-- A backup: the number of the commit after which it was made, and the tables.
pub record Backup : Type 0 where
  pub commit : ℕ
  pub tables : Tables

abbrev pub table_of_image : TableImage → List ℕ × Rows
table_of_image t = (t.name, record { version = t.version; columns = t.columns; next = t.next; rows = map (λ r. (r.0, record { values = r.1 })) t.rows })

-- row numbers rise, and are below the next one
abbrev pub image_stands : TableImage → Bool
image_stands t = rising 0 (map (λ r. r.0) t.rows) && list_all (λ r. nat_lt r.0 t.next) t.rows

-- one more backup: the next number, no table twice
abbrev pub backups_step : List Backup → BackupRecord → Option (List Backup)
backups_step backups (backed.Backup number commit tables) =
    if (number == length backups + 1) && differ bytes_eq (map (λ t. t.name) tables) && list_all image_stands tables
    then Some (backups ++ record { commit = commit; tables = map table_of_image tables } ∷ []) else None
