-- Which rows fit their columns: which values each kind of column and each rule takes, how many there are, and that each row of each table
-- is looked at; keys of one table, and link numbers of all tables.
use Rattle.std.proofs.Common.{◌≡◌, ℕ, Bool, true, false, List, [], ◌∷◌, map, codes, Option, Some, None, refl, pos}
use Rattle.dl_base.specs.declared.column.Column.{Column}
use Rattle.dl_base.specs.declared.column.ColumnRule.{ColumnRule}
use Rattle.dl_base.specs.declared.column.ColumnRule.TheVariants as rules
use Rattle.dl_base.specs.declared.column.Kind.{Kind}
use Rattle.dl_base.specs.declared.column.Kind.TheVariants as kinds
use Rattle.dl_base.specs.declared.value.LinkNo.{LinkNo}
use Rattle.dl_base.specs.declared.value.Row.{Row}
use Rattle.dl_base.specs.declared.value.Value.{Value}
use Rattle.dl_base.specs.declared.value.Value.TheVariants as values
use Rattle.meaning_statements.specs.Creating.{db2_options}
use Rattle.meaning_tables.specs.Fits.{fits}
use Rattle.meaning_tables.specs.Tables.{Rows}

abbrev column : Kind → ColumnRule → Column
column kind rule = record { name = codes "c"; kind = kind; rule = rule }

abbrev row : ℕ → List Value → ℕ × Row
row number cells = (number, record { values = cells })

abbrev table : List ℕ → List Column → List (ℕ × Row) → List ℕ × Rows
table name columns rows = (name, record { version = 0; columns = columns; next = 9; rows = rows })

abbrev int : ℕ → Value
int n = values.Int (pos n)

-- a datalink, and the link number of a count in transaction 5
abbrev link : Option LinkNo → Value
link number = values.Link (record { location = codes "http://fs1/a"; path = codes "/a"; comment = []; link = number })

abbrev numbered : ℕ → Option LinkNo
numbered k = Some (record { tx = 5; k = k })

abbrev linked : Column
linked = column (kinds.Linked db2_options) rules.Plain

-- a table of these columns with one row, and of one column with one cell
abbrev fits_row : List Column → List Value → Bool
fits_row columns cells = fits (table (codes "t") columns (row 1 cells ∷ []) ∷ [])

abbrev fits_cell : Column → Value → Bool
fits_cell c v = fits_row (c ∷ []) (v ∷ [])

-- ---- one cell

-- NULL, a whole number, a text, a datalink without a link number, and one with one; in a column of whole numbers, of texts, of datalinks
-- without link control, and of those under it
kinds_of_values : map (λ (kind : Kind). map (fits_cell (column kind rules.Plain)) (values.Null ∷ int 7 ∷ values.Text (codes "a") ∷ link None ∷ link (numbered 1) ∷ [])) (kinds.Int ∷ kinds.Text 2 ∷ kinds.Free ∷ kinds.Linked db2_options ∷ [])
    ≡ (true ∷ true ∷ false ∷ false ∷ false ∷ [])
    ∷ (true ∷ false ∷ true ∷ false ∷ false ∷ [])
    ∷ (true ∷ false ∷ false ∷ true ∷ false ∷ [])
    ∷ (true ∷ false ∷ false ∷ false ∷ true ∷ [])
    ∷ []
kinds_of_values = refl

-- NULL stands in a plain column alone
rules_on_null : map (λ (rule : ColumnRule). map (fits_cell (column kinds.Int rule)) (values.Null ∷ int 7 ∷ [])) (rules.Plain ∷ rules.NotNull ∷ rules.Key ∷ []) ≡ (true ∷ true ∷ []) ∷ (false ∷ true ∷ []) ∷ (false ∷ true ∷ []) ∷ []
rules_on_null = refl

-- texts of no byte to three in a column of two
lengths_of_texts : map (λ (text : List ℕ). fits_cell (column (kinds.Text 2) rules.Plain) (values.Text text)) ([] ∷ codes "a" ∷ codes "ab" ∷ codes "abc" ∷ []) ≡ true ∷ true ∷ true ∷ false ∷ []
lengths_of_texts = refl

-- ---- one row, of no value to three in two columns

numbers_of_values : map (fits_row (linked ∷ linked ∷ [])) ([] ∷ (values.Null ∷ []) ∷ (values.Null ∷ values.Null ∷ []) ∷ (values.Null ∷ values.Null ∷ values.Null ∷ []) ∷ []) ≡ false ∷ false ∷ true ∷ false ∷ []
numbers_of_values = refl

-- ---- several rows and tables

abbrev key : Column
key = column kinds.Int rules.Key

-- whether these keys fit in one table, and these in another
abbrev fit_keys : List (ℕ × Row) → List (ℕ × Row) → Bool
fit_keys of_t of_u = fits (table (codes "t") (key ∷ []) of_t ∷ table (codes "u") (key ∷ []) of_u ∷ [])

second_row_is_null : fit_keys (row 1 (int 7 ∷ []) ∷ row 2 (values.Null ∷ []) ∷ []) [] ≡ false
second_row_is_null = refl

row_of_a_second_table_is_null : fit_keys (row 1 (int 7 ∷ []) ∷ []) (row 1 (values.Null ∷ []) ∷ []) ≡ false
row_of_a_second_table_is_null = refl

-- a key is one row's of its table
one_key_in_a_table : fit_keys [] (row 1 (int 7 ∷ []) ∷ row 2 (int 8 ∷ []) ∷ row 3 (int 7 ∷ []) ∷ []) ≡ false
one_key_in_a_table = refl

one_key_in_two_tables : fit_keys (row 1 (int 7 ∷ []) ∷ []) (row 1 (int 7 ∷ []) ∷ []) ≡ true
one_key_in_two_tables = refl

-- a link number is one cell's of all: three in two tables, with a number that stands in the second cell of a row, in another table, or in
-- neither
abbrev fit_numbers : ℕ → ℕ → ℕ → Bool
fit_numbers i j k = fits (table (codes "t") (linked ∷ linked ∷ []) (row 1 (link (numbered i) ∷ link (numbered j) ∷ []) ∷ []) ∷ table (codes "u") (linked ∷ []) (row 1 (link (numbered k) ∷ []) ∷ []) ∷ [])

three_numbers : fit_numbers 1 2 3 ≡ true
three_numbers = refl

one_number_in_a_row : fit_numbers 1 1 3 ≡ false
one_number_in_a_row = refl

one_number_in_two_tables : fit_numbers 1 2 1 ≡ false
one_number_in_two_tables = refl
