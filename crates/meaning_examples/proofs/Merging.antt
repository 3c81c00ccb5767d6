-- What a Commit record lists of the tables of a transaction: those that it dropped, those that it kept and changed, and its new ones,
-- each in the order of their tables; and of a table that was kept the rows that differ, in the order of their numbers. Each row is of
-- the definition, and of its copy over which the rows of the machine compute.
use Rattle.std.proofs.Common.{◌≡◌, ℕ, List, [], ◌∷◌, Some, None, refl, pos}
use Rattle.dl_base.specs.declared.column.Column.{Column}
use Rattle.dl_base.specs.declared.column.ColumnRule.TheVariants as rules
use Rattle.dl_base.specs.declared.column.Kind.TheVariants as kinds
use Rattle.dl_base.specs.declared.value.Row.{Row}
use Rattle.dl_base.specs.declared.value.Value.{Value}
use Rattle.dl_base.specs.declared.value.Value.TheVariants as values
use Rattle.dl_codec.specs.declared.rows.RowChange.{RowChange}
use Rattle.dl_codec.specs.declared.rows.TableChange.{TableChange}
use Rattle.dl_codec.specs.declared.rows.TableChange.TheVariants as changes
use Rattle.meaning_examples.specs.Merging as copied
use Rattle.meaning_merge.specs.Merging.{commit_changes}
use Rattle.meaning_statements.specs.Creating.{db2_options}
use Rattle.meaning_tables.specs.Tables.{Rows, Tables}

abbrev linked : List Column
linked = record { name = 108 ∷ []; kind = kinds.Linked db2_options; rule = rules.Plain } ∷ []

abbrev plain : List Column
plain = record { name = 110 ∷ []; kind = kinds.Int; rule = rules.Plain } ∷ []

abbrev row : ℕ → Value → ℕ × Row
row n v = (n, record { values = v ∷ [] })

-- a datalink to the file of one letter, under a link of a transaction
abbrev link : ℕ → ℕ → Value
link letter tx = values.Link (record { location = 104 ∷ []; path = 47 ∷ letter ∷ []; comment = []; link = Some (record { tx = tx; k = 1 }) })

abbrev seven : Value
seven = values.Int (pos 7)

-- a table under a name of one letter: its version, its columns, its next row number, its rows
abbrev table : ℕ → ℕ → List Column → ℕ → List (ℕ × Row) → List ℕ × Rows
table letter version columns next rows = (letter ∷ [], record { version = version; columns = columns; next = next; rows = rows })

-- what becomes of a row
abbrev removed : ℕ → RowChange
removed n = record { number = n; values = None }

abbrev put : ℕ → Value → RowChange
put n v = record { number = n; values = Some (v ∷ []) }

-- the tables at the begin of the transaction, and its copy at the end
abbrev Lists : Tables → Tables → List TableChange → Type 0
Lists base copy made = (commit_changes base copy ≡ made) × (copied.commit_changes base copy ≡ made)

-- a has one link, and b no row
abbrev base : Tables
base = table 97 1 linked 2 (row 1 (link 120 1) ∷ []) ∷ table 98 1 plain 1 [] ∷ []

-- a has another link in the place of the first; b stays, and is not listed
another_link : Lists base (table 97 1 linked 3 (row 2 (link 121 5) ∷ []) ∷ table 98 1 plain 1 [] ∷ []) (changes.Kept (97 ∷ []) 3 (removed 1 ∷ put 2 (link 121 5) ∷ []) ∷ [])
another_link = (refl, refl)

-- a is dropped and made again, and b has a row
made_again : Lists base (table 98 1 plain 2 (row 1 values.Null ∷ []) ∷ table 97 0 plain 1 [] ∷ []) (changes.Dropped (97 ∷ []) ∷ changes.Kept (98 ∷ []) 2 (put 1 values.Null ∷ []) ∷ changes.New (97 ∷ []) plain 1 [] ∷ [])
made_again = (refl, refl)

-- of three rows the second differs
one_of_three_rows : Lists
    (table 98 1 plain 4 (row 1 values.Null ∷ row 2 values.Null ∷ row 3 seven ∷ []) ∷ [])
    (table 98 1 plain 4 (row 1 values.Null ∷ row 2 seven ∷ row 3 seven ∷ []) ∷ [])
    (changes.Kept (98 ∷ []) 4 (put 2 seven ∷ []) ∷ [])
one_of_three_rows = (refl, refl)

-- of d, a, e and b, d and e are dropped, and a has another next row number alone; y and x are new
two_of_each : Lists
    (table 100 1 plain 1 [] ∷ table 97 1 plain 2 [] ∷ table 101 1 plain 1 [] ∷ table 98 1 plain 1 [] ∷ [])
    (table 121 0 plain 1 [] ∷ table 98 1 plain 2 (row 1 values.Null ∷ []) ∷ table 120 0 plain 2 (row 1 seven ∷ []) ∷ table 97 1 plain 3 [] ∷ [])
    (changes.Dropped (100 ∷ [])
    ∷ changes.Dropped (101 ∷ [])
    ∷ changes.Kept (97 ∷ []) 3 []
    ∷ changes.Kept (98 ∷ []) 2 (put 1 values.Null ∷ [])
    ∷ changes.New (121 ∷ []) plain 1 []
    ∷ changes.New (120 ∷ []) plain 2 (put 1 seven ∷ [])
    ∷ [])
two_of_each = (refl, refl)
