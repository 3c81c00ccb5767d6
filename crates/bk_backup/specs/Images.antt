-- The record of a backup, and the tables of one.
use Rattle.std.specs.Prelude.{◌+◌, ◌&&◌, ℕ, List, [], ◌∷◌, ◌++◌, length, map, bytes_eq, is_none, Bool, Option, Some, None, if◌then◌else◌}
use Rattle.std.specs.List.{list_all}
use Rattle.dl_codec.specs.declared.backups.BackupRecord.{BackupRecord}
use Rattle.dl_codec.specs.declared.backups.BackupRecord.TheVariants as records
use Rattle.dl_codec.specs.declared.backups.TableImage.{TableImage}
use Rattle.meaning_areas.specs.Copies.{Backup, image_stands, table_of_image}
use Rattle.meaning_system.specs.Writes.{image_of}
use Rattle.meaning_tables.specs.Fits.{differ}
use Rattle.meaning_tables.specs.Tables.{Tables, table_of}

-- the record of one more backup
abbrev pub record_of : List Backup → ℕ → Tables → BackupRecord
record_of backups commit tables = records.Backup (length backups + 1) commit (map image_of tables)

-- the tables of some images: none where two have one name, or one does not stand
abbrev pub tables_of_images : List TableImage → Option Tables
tables_of_images images = if differ bytes_eq (map (λ t. t.name) images) && list_all image_stands images then Some (map table_of_image images) else None

-- an image stands, and no table has its name
abbrev pub can_put : Tables → TableImage → Bool
can_put tables t = is_none (table_of tables t.name) && image_stands t

-- the tables with that of one more image
abbrev pub tables_and : Tables → TableImage → Option Tables
tables_and tables t = if can_put tables t then Some (tables ++ table_of_image t ∷ []) else None
