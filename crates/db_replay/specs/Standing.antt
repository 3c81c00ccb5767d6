-- A row among others, and tables without the rows that changes name.
use Rattle.std.specs.Prelude.{ℕ, ◌==◌, ◌&&◌, Bool, true, not, List, [], ◌∷◌, Option, Some, None, bytes_eq, filter, is_none, map}
use Rattle.std.specs.List.{list_all, list_any}
use Rattle.dl_base.specs.declared.column.Column.{Column}
use Rattle.dl_base.specs.declared.value.LinkNo.{LinkNo}
use Rattle.dl_base.specs.declared.value.Row.{Row}
use Rattle.dl_base.specs.declared.value.Value.{Value}
use Rattle.dl_codec.specs.declared.rows.RowChange.{RowChange}
use Rattle.dl_codec.specs.declared.rows.TableChange.{TableChange}
use Rattle.dl_codec.specs.declared.rows.TableChange.TheVariants as changes
use Rattle.meaning_tables.specs.First.{first_number, has_key}
use Rattle.meaning_tables.specs.Fits.{differ, fits_columns, key_of}
use Rattle.meaning_tables.specs.Links.{links, row_links, same_number}
use Rattle.meaning_tables.specs.Tables.{Rows, Tables, row_of, table_of, with_table, without_row}

-- a row among others

-- no row has one of the values in a key column
abbrev pub key_is_new : List Column → List (ℕ × Row) → List Value → Bool
key_is_new columns rows values = list_all (λ v. is_none (first_number (has_key columns v) rows)) (key_of columns values)

-- link numbers that differ from each other and from those of tables
abbrev pub links_are_new : Tables → List LinkNo → Bool
links_are_new tables numbers = list_all (λ n. not (list_any (λ l. same_number n l.link) (links tables))) numbers && differ same_number numbers

-- a row that is in none of the tables may be put into a table of theirs
abbrev pub row_stands : Tables → Rows → Row → Bool
row_stands tables t row =
    fits_columns t.columns row.values && key_is_new t.columns t.rows row.values && links_are_new tables (map (λ l. l.link) (row_links t.columns row.values))

abbrev pub row_stands_in : Tables → Row → Option Rows → Bool
row_stands_in tables row None = true
row_stands_in tables row (Some t) = row_stands tables t row

-- without rows

abbrev pub row_at : ℕ → Option Rows → Option Row
row_at number None = None
row_at number (Some t) = row_of t.rows number

-- the row of a number in the table of a name
abbrev pub row_in : Tables → List ℕ → ℕ → Option Row
row_in tables name number = row_at number (table_of tables name)

abbrev pub without_row_at : Tables → List ℕ → ℕ → Option Rows → Tables
without_row_at tables name number None = tables
without_row_at tables name number (Some t) = with_table tables name (record t { rows = without_row t.rows number })

-- the tables without it
abbrev pub without_row_in : Tables → List ℕ → ℕ → Tables
without_row_in tables name number = without_row_at tables name number (table_of tables name)

-- the tables without the rows that pass a test of table name and row number
abbrev pub stripped : (List ℕ → ℕ → Bool) → Tables → Tables
stripped test tables = map (λ t. (t.0, record t.1 { rows = filter (λ r. not (test t.0 r.0)) t.1.rows })) tables

abbrev pub is_row : List ℕ → ℕ → List ℕ → ℕ → Bool
is_row name number n k = bytes_eq name n && (number == k)

abbrev pub without_rows : Tables → List ℕ → List RowChange → Tables
without_rows tables name [] = tables
without_rows tables name (c ∷ cs) = without_rows (stripped (is_row name c.number) tables) name cs

-- without the rows that a change names
abbrev pub without_changed : Tables → TableChange → Tables
without_changed tables (changes.Dropped name) = tables
without_changed tables (changes.New name columns next made) = without_rows tables name made
without_changed tables (changes.Kept name next made) = without_rows tables name made

abbrev pub without_all : Tables → List TableChange → Tables
without_all tables [] = tables
without_all tables (c ∷ cs) = without_all (without_changed tables c) cs
