-- The rows that the changes of a commit name.
use Rattle.std.specs.Prelude.{◌≡◌, ℕ, false, List, [], Option, Some, None, map}
use Rattle.dl_codec.specs.declared.rows.TableChange.{TableChange}
use Rattle.dl_codec.specs.declared.rows.TableChange.TheVariants as changes
use Rattle.meaning_tables.specs.Tables.{Rows, Tables, table_of}
use Rattle.db_replay.specs.Standing.{row_in}
use Rattle.db_changes.specs.Touched.{Touched, among, numbers_of}

-- the name of a change's table
abbrev pub name_of : TableChange → List ℕ
name_of (changes.Dropped name) = name
name_of (changes.New name columns next made) = name
name_of (changes.Kept name next made) = name

-- the numbers of a table's rows
abbrev pub numbers_in : Option Rows → List ℕ
numbers_in None = []
numbers_in (Some t) = map (λ r. r.0) t.rows

-- the numbers of the rows that a change puts or removes; where it drops a table, of all rows that the tables before the commit have under
-- that name
abbrev pub rows_named : Tables → TableChange → List ℕ
rows_named before (changes.Dropped name) = numbers_in (table_of before name)
rows_named before (changes.New name columns next made) = map (λ c. c.number) made
rows_named before (changes.Kept name next made) = map (λ c. c.number) made

-- beside some numbers, tables have the rows that those before have, under each name
abbrev pub AgreeBeside : Touched → Tables → Tables → Type 0
AgreeBeside touched before after = (name : List ℕ) (n : ℕ) → among (numbers_of touched name) n ≡ false → row_in after name n ≡ row_in before name n
