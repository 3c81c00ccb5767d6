-- The layouts of the area Backups: whole tables, and records.
use Rattle.std.specs.Prelude.{ℕ, zero, suc, List, [], ◌∷◌, Option, None}
use Rattle.dl_base.specs.declared.column.Column.{Column}
use Rattle.dl_base.specs.declared.value.Value.{Value}
use Rattle.dl_codec.specs.declared.backups.BackupRecord.{BackupRecord}
use Rattle.dl_codec.specs.declared.backups.BackupRecord.TheVariants as records
use Rattle.dl_codec.specs.declared.backups.TableImage.{TableImage}
use Rattle.dl_codec.specs.Layout.{Layout, behind, u64, name, pair, along, list}
use Rattle.dl_codec.specs.Values.{column, value}

-- a table: name, version, columns, next row number, and its rows by number
abbrev pub table_image_of : List ℕ × (ℕ × (List Column × (ℕ × List (ℕ × List Value)))) → TableImage
table_image_of p = record { name = p.0; version = p.1.0; columns = p.1.1.0; next = p.1.1.1.0; rows = p.1.1.1.1 }

abbrev pub fields_of_table_image : TableImage → List ℕ × (ℕ × (List Column × (ℕ × List (ℕ × List Value))))
fields_of_table_image t = (t.name, (t.version, (t.columns, (t.next, t.rows))))

unfoldable pub table_image : Layout TableImage
table_image = along table_image_of fields_of_table_image (pair name (pair u64 (pair (list column) (pair u64 (list (pair u64 (list value)))))))

-- a record: 1, the number of the backup, that of the last commit, and the tables
abbrev pub backup : Layout (ℕ × (ℕ × List TableImage))
backup = pair u64 (pair u64 (list table_image))

abbrev pub backup_record_spelling : BackupRecord → List ℕ
backup_record_spelling (records.Backup number commit tables) = 1 ∷ backup.spelling (number, (commit, tables))

abbrev pub backup_record_fits : BackupRecord → Type 0
backup_record_fits (records.Backup number commit tables) = backup.fits (number, (commit, tables))

abbrev pub backup_record_reading : List ℕ → Option (BackupRecord × List ℕ)
backup_record_reading [] = None
backup_record_reading (zero ∷ rest) = None
backup_record_reading (suc zero ∷ rest) = behind (λ p. records.Backup p.0 p.1.0 p.1.1) backup rest
backup_record_reading (suc (suc b) ∷ rest) = None

unfoldable pub backup_record : Layout BackupRecord
backup_record = record { spelling = backup_record_spelling; fits = backup_record_fits; reading = backup_record_reading }
