-- What the indexes have of a row: nothing, one key alone, or more.
use Rattle.std.specs.Prelude.{◌≡◌, ℕ, List, [], ◌∷◌, Some}
use Rattle.dl_base.specs.declared.column.Column.{Column}
use Rattle.dl_base.specs.declared.value.LinkNo.{LinkNo}
use Rattle.dl_base.specs.declared.value.Row.{Row}
use Rattle.meaning_tables.specs.Tables.{row_of}
use Rattle.sql_table.specs.KeySeen.{Key}
use Rattle.sql_table.specs.Keys.{key_marks}
use Rattle.sql_table.specs.Marks.{link_marks}
use Rattle.sql_table.specs.declared.index.Entries.{Entries}
use Rattle.sql_table.specs.declared.index.Entries.TheVariants as entries

-- what entries tell of a row's link numbers and keys
abbrev pub AreEntries : Entries → List LinkNo → List Key → Type 0
AreEntries entries.Nothing links keys = (links ≡ []) × (keys ≡ [])
AreEntries (entries.Key key) links keys = (links ≡ []) × (keys ≡ key ∷ [])
AreEntries entries.More links keys = Unit {0}

-- those of the row of a number
abbrev pub AreEntriesOf : List Column → List (ℕ × Row) → ℕ → Entries → Type 0
AreEntriesOf columns rows number made = (row : Row) → row_of rows number ≡ Some row → AreEntries made (link_marks columns row) (key_marks columns row)
