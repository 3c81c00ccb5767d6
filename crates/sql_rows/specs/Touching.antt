-- Which rows of a table an UPDATE touches.
use Rattle.std.specs.Prelude.{⊤, ◌≡◌, ℕ, List}
use Rattle.dl_base.specs.declared.value.Row.{Row}
use Rattle.meaning_tables.specs.Tables.{with_row}
use Rattle.sql_keys.specs.declared.finding.KeyRows.{KeyRows}
use Rattle.sql_keys.specs.declared.finding.KeyRows.TheVariants as touched

-- new rows are old ones: all but that of a number where one alone is touched, and each where none is
abbrev pub KeepsOthers : KeyRows → List (ℕ × Row) → List (ℕ × Row) → Type 0
KeepsOthers touched.All old new = ⊤
KeepsOthers (touched.One n) old new = (row : Row) × (new ≡ with_row old n row)
KeepsOthers touched.Nothing old new = new ≡ old
