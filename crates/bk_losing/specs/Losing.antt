-- The links that a restore loses, as they are asked for; its target without them, row by row.
use Rattle.std.specs.Prelude.{◌&&◌, ◌||◌, ℕ, Bool, false, not, if◌then◌else◌, List, [], ◌∷◌, is_none, map, Option, Some, None}
use Rattle.std.specs.BTreeSet.{contains}
use Rattle.std.specs.Cmp.Lexicographic.{slice_cmp}
use Rattle.std.specs.FinMap as maps
use Rattle.std.specs.List.{flat_map}
use Rattle.std.specs.Ordering.{nat_cmp}
use Rattle.bk_losing.specs.declared.losing.Losing.{Losing}
use Rattle.dl_base.specs.declared.answer.Lost.{Lost}
use Rattle.dl_base.specs.declared.column.Column.{Column}
use Rattle.dl_base.specs.declared.value.LinkRow.{LinkRow}
use Rattle.dl_base.specs.declared.value.Row.{Row}
use Rattle.dl_base.specs.declared.value.Value.{Value}
use Rattle.dl_base.specs.declared.value.Value.TheVariants as values
use Rattle.meaning_merge.specs.Restoring.{loses, lost_in, without_cells}
use Rattle.meaning_settling.specs.Settling.{link_key}
use Rattle.meaning_tables.specs.Tables.{Rows, with_row}

-- a link whose number is taken, with RECOVERY NO, and whose path has no file
abbrev pub lost_by : Losing → LinkRow → Bool
lost_by s l = contains (slice_cmp nat_cmp) s.taken (link_key l.link) && not l.options.recovery && is_none (maps.get s.files.now.files l.path)

-- the lost cells of one table
abbrev pub table_lost : (LinkRow → Bool) → List ℕ × Rows → List Lost
table_lost lost t = flat_map (λ r. lost_in lost t.0 r.0 t.1.columns r.1.values) t.1.rows

-- whether a row has one
abbrev pub loses_any : (LinkRow → Bool) → List Column → List Value → Bool
loses_any lost [] vs = false
loses_any lost (c ∷ cs) [] = false
loses_any lost (c ∷ cs) (v ∷ vs) = loses lost c v || loses_any lost cs vs

abbrev pub cell_without : (LinkRow → Bool) → Option Column → Value → Value
cell_without lost None v = v
cell_without lost (Some c) v = if loses lost c v then values.Null else v

abbrev pub row_without : (LinkRow → Bool) → List Column → Row → Row
row_without lost cs row = record { values = without_cells lost cs row.values }

abbrev pub rows_without : (LinkRow → Bool) → List Column → List (ℕ × Row) → List (ℕ × Row)
rows_without lost cs rows = map (λ r. (r.0, record { values = without_cells lost cs r.1.values })) rows

abbrev pub table_without : (LinkRow → Bool) → Rows → Rows
table_without lost t = record t { rows = rows_without lost t.columns t.rows }

-- rows with one of them without its lost cells
abbrev pub row_set : (LinkRow → Bool) → List Column → List (ℕ × Row) → ℕ → Row → List (ℕ × Row)
row_set lost cs rows number row = if loses_any lost cs row.values then with_row rows number (row_without lost cs row) else rows
