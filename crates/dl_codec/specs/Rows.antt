-- The layouts of the area Rows: changes of rows and of tables, and records.
use Rattle.std.specs.Prelude.{ℕ, zero, suc, List, [], ◌∷◌, Option, None, Bool}
use Rattle.dl_base.specs.declared.column.Column.{Column}
use Rattle.dl_base.specs.declared.value.Value.{Value}
use Rattle.dl_codec.specs.declared.rows.RowChange.{RowChange}
use Rattle.dl_codec.specs.declared.rows.RowsRecord.{RowsRecord}
use Rattle.dl_codec.specs.declared.rows.RowsRecord.TheVariants as records
use Rattle.dl_codec.specs.declared.rows.TableChange.{TableChange}
use Rattle.dl_codec.specs.declared.rows.TableChange.TheVariants as changes
use Rattle.dl_codec.specs.Layout.{Layout, behind, bare, u32, u64, bool, name, option, pair, along, list}
use Rattle.dl_codec.specs.Values.{column, value}

-- a change of a row: its number, and 0, or 1 and its values
abbrev pub row_change_of : ℕ × Option (List Value) → RowChange
row_change_of p = record { number = p.0; values = p.1 }

abbrev pub fields_of_row_change : RowChange → ℕ × Option (List Value)
fields_of_row_change c = (c.number, c.values)

unfoldable pub row_change : Layout RowChange
row_change = along row_change_of fields_of_row_change (pair u64 (option (list value)))

-- what is done to a table, whichever it is
pub data Done : Type 0 where
  dropped : Done
  new : List Column → ℕ → List RowChange → Done
  kept : ℕ → List RowChange → Done

abbrev pub new_fields : Layout (List Column × (ℕ × List RowChange))
new_fields = pair (list column) (pair u64 (list row_change))

abbrev pub kept_fields : Layout (ℕ × List RowChange)
kept_fields = pair u64 (list row_change)

abbrev pub done_spelling : Done → List ℕ
done_spelling dropped = 0 ∷ []
done_spelling (new columns next rows) = 1 ∷ new_fields.spelling (columns, (next, rows))
done_spelling (kept next rows) = 2 ∷ kept_fields.spelling (next, rows)

abbrev pub done_fits : Done → Type 0
done_fits dropped = Unit {0}
done_fits (new columns next rows) = new_fields.fits (columns, (next, rows))
done_fits (kept next rows) = kept_fields.fits (next, rows)

abbrev pub done_reading : List ℕ → Option (Done × List ℕ)
done_reading [] = None
done_reading (zero ∷ rest) = bare dropped rest
done_reading (suc zero ∷ rest) = behind (λ p. new p.0 p.1.0 p.1.1) new_fields rest
done_reading (suc (suc zero) ∷ rest) = behind (λ p. kept p.0 p.1) kept_fields rest
done_reading (suc (suc (suc b)) ∷ rest) = None

unfoldable pub done : Layout Done
done = record { spelling = done_spelling; fits = done_fits; reading = done_reading }

-- a change of a table: its name, and 0 dropped, 1 new with columns, next row number and rows, 2 kept with the latter two
abbrev pub change_by : List ℕ → Done → TableChange
change_by table dropped = changes.Dropped table
change_by table (new columns next rows) = changes.New table columns next rows
change_by table (kept next rows) = changes.Kept table next rows

abbrev pub fields_of_table_change : TableChange → List ℕ × Done
fields_of_table_change (changes.Dropped table) = (table, dropped)
fields_of_table_change (changes.New table columns next rows) = (table, new columns next rows)
fields_of_table_change (changes.Kept table next rows) = (table, kept next rows)

unfoldable pub table_change : Layout TableChange
table_change = along (λ p. change_by p.0 p.1) fields_of_table_change (pair name done)

-- a record: 1 and the opening; 2, the transaction, the commit, whether it has a branch, and the tables; 3 and the transaction
abbrev pub commit : Layout (ℕ × (ℕ × (Bool × List TableChange)))
commit = pair u64 (pair u64 (pair bool (list table_change)))

abbrev pub rows_record_spelling : RowsRecord → List ℕ
rows_record_spelling (records.Opening number) = 1 ∷ u32.spelling number
rows_record_spelling (records.Commit tx number branch tables) = 2 ∷ commit.spelling (tx, (number, (branch, tables)))
rows_record_spelling (records.Ended tx) = 3 ∷ u64.spelling tx

abbrev pub rows_record_fits : RowsRecord → Type 0
rows_record_fits (records.Opening number) = u32.fits number
rows_record_fits (records.Commit tx number branch tables) = commit.fits (tx, (number, (branch, tables)))
rows_record_fits (records.Ended tx) = u64.fits tx

abbrev pub rows_record_reading : List ℕ → Option (RowsRecord × List ℕ)
rows_record_reading [] = None
rows_record_reading (zero ∷ rest) = None
rows_record_reading (suc zero ∷ rest) = behind (λ number. records.Opening number) u32 rest
rows_record_reading (suc (suc zero) ∷ rest) = behind (λ p. records.Commit p.0 p.1.0 p.1.1.0 p.1.1.1) commit rest
rows_record_reading (suc (suc (suc zero)) ∷ rest) = behind (λ tx. records.Ended tx) u64 rest
rows_record_reading (suc (suc (suc (suc b))) ∷ rest) = None

unfoldable pub rows_record : Layout RowsRecord
rows_record = record { spelling = rows_record_spelling; fits = rows_record_fits; reading = rows_record_reading }
