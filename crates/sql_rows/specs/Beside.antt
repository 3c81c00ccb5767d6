-- Which rows a change may have touched: all others are as they were.
use Rattle.std.specs.Prelude.{◌≡◌, ℕ, ◌==◌, Bool, true, false, List, Some, is_some}
use Rattle.std.specs.List.{list_any}
use Rattle.dl_base.specs.declared.value.Row.{Row}
use Rattle.meaning_tables.specs.Tables.{Rows, Tables, row_of, table_of}

abbrev pub is_among : ℕ → List ℕ → Bool
is_among n numbers = list_any (λ m. n == m) numbers

-- rows of all other numbers are as before
abbrev pub RowsAgreeBeside : List ℕ → List (ℕ × Row) → List (ℕ × Row) → Type 0
RowsAgreeBeside numbers old new = (n : ℕ) → is_among n numbers ≡ false → row_of new n ≡ row_of old n

-- the same in each table that is there before and after
abbrev pub AgreeBeside : List ℕ → Tables → Tables → Type 0
AgreeBeside numbers old new = (name : List ℕ) (before after : Rows) → table_of old name ≡ Some before → table_of new name ≡ Some after → RowsAgreeBeside numbers before.rows after.rows

-- each of the first numbers is among the second
abbrev pub AreAmong : List ℕ → List ℕ → Type 0
AreAmong few more = (n : ℕ) → is_among n more ≡ false → is_among n few ≡ false

-- no table that is there at first and at last is missing between them
abbrev pub StayBetween : Tables → Tables → Tables → Type 0
StayBetween first between last = (name : List ℕ) → is_some (table_of first name) ≡ true → is_some (table_of last name) ≡ true → is_some (table_of between name) ≡ true
