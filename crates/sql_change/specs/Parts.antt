-- Steps of a proof, which nobody need read: with `told` they equal `insert`, `update` and `delete` of the meaning of statements
-- (`Changing`). Each is what is left to do of a statement once the parts before it are known. What is made is the table, the next
-- link number and the number of rows that were put in, met or removed.
use Rattle.std.specs.Prelude.{ℕ, ◌+◌, ◌-◌, ◌==◌, ◌++◌, List, [], length, map, Option, Result, Ok}
use Rattle.dl_base.specs.declared.answer.Limit.TheVariants as limits
use Rattle.dl_base.specs.declared.sql_fault.SqlFault.{SqlFault}
use Rattle.dl_base.specs.declared.sql_fault.SqlFault.TheVariants as faults
use Rattle.dl_base.specs.declared.statement.Expr.{Expr}
use Rattle.dl_base.specs.declared.value.Row.{Row}
use Rattle.meaning_sql.specs.declared.Context.{Context}
use Rattle.meaning_sql.specs.declared.AggregateScope.TheVariants as scope
use Rattle.meaning_sql.specs.Columns.{Columns}
use Rattle.meaning_sql.specs.Faults.{◌>>=◌, ensure, option_list, try_map}
use Rattle.meaning_sql.specs.Types.{type_of}
use Rattle.meaning_statements.specs.Changing.{Changed, has_room, keys_hold, set_places, target_places, assigned, inserted_rows, updated_rows, remaining}
use Rattle.meaning_sql.specs.Conditions.{condition_type}
use Rattle.meaning_statements.specs.Sources.{no_row, own_columns}
use Rattle.meaning_tables.specs.Tables.{Rows, Tables, with_table}

abbrev pub Made : Type 0
Made = Rows × (ℕ × ℕ)

-- what is made, put in the place of its table
abbrev pub told : Tables → List ℕ → Made → Changed
told tables name made = record { tables = with_table tables name made.0; next = made.1.0; count = made.1.1 }

-- INSERT

abbrev pub grown_table : Rows → List (ℕ × Row) → ℕ → Rows
grown_table t rows count = record t { next = t.next + count; rows = t.rows ++ rows }

-- where there is room for the rows, and the keys differ
unfoldable pub grown : Rows → List (ℕ × Row) → ℕ → ℕ → Result Made SqlFault
grown t rows next count = do
  room ← ensure (has_room t count) (faults.Limit limits.Rows)
  keys ← keys_hold (grown_table t rows count)
  Ok (grown_table t rows count, (next, count))

-- once all types fit; expressions see the given columns at the given row
unfoldable pub filled : Columns → Row → Rows → List ℕ → List (List Expr) → Context → ℕ → Result Made SqlFault
filled seen at t places tuples context k = do
  rows ← inserted_rows context seen at t.columns places t.next k tuples
  grown t rows.0 rows.1 (length tuples)

-- once the tuples are of the right length
unfoldable pub typed_in : Columns → Row → Rows → List ℕ → List (List Expr) → Context → ℕ → Result Made SqlFault
typed_in seen at t places tuples context k = do
  types ← try_map (try_map (type_of seen scope.Row)) tuples
  fit ← try_map (assigned t.columns places) types
  filled seen at t places tuples context k

-- once the places of the columns are known
unfoldable pub put_in : Columns → Row → Rows → List ℕ → List (List Expr) → Context → ℕ → Result Made SqlFault
put_in seen at t places tuples context k = do
  lengths ← try_map (λ es. ensure (length es == length places) faults.Arity) tuples
  typed_in seen at t places tuples context k

unfoldable pub inserted : Rows → Option (List (List ℕ)) → List (List Expr) → Context → ℕ → Result Made SqlFault
inserted t names tuples context k = do
  places ← target_places t.columns names
  put_in [] no_row t places tuples context k

-- UPDATE

abbrev pub with_rows : Rows → List (ℕ × Row) → Rows
with_rows t rows = record t { rows = rows }

-- where the keys of the table's rows differ
unfoldable pub replaced : Rows → ℕ → ℕ → Result Made SqlFault
replaced t next met = do
  keys ← keys_hold t
  Ok (t, (next, met))

-- once all types fit
unfoldable pub set_rows : Columns → Rows → List ℕ → List (List ℕ × Expr) → Option Expr → Context → ℕ → Result Made SqlFault
set_rows columns t places sets filter context k = do
  rows ← updated_rows columns context t.columns (option_list filter) places (map (λ s. s.1) sets) k t.rows
  replaced (with_rows t rows.0) rows.1.0 rows.1.1

-- once the places of the columns are known
unfoldable pub set_at : Columns → Rows → List ℕ → List (List ℕ × Expr) → Option Expr → Context → ℕ → Result Made SqlFault
set_at columns t places sets filter context k = do
  types ← try_map (λ s. type_of columns scope.Row s.1) sets
  conditions ← try_map (condition_type columns) (option_list filter)
  fit ← assigned t.columns places types
  set_rows columns t places sets filter context k

unfoldable pub updated : List ℕ → Rows → List (List ℕ × Expr) → Option Expr → Context → ℕ → Result Made SqlFault
updated name t sets filter context k = do
  places ← set_places t.columns [] (map (λ s. s.0) sets)
  set_at (own_columns name t) t places sets filter context k

-- DELETE

unfoldable pub left_over : Columns → Rows → Option Expr → Context → ℕ → Result Made SqlFault
left_over columns t filter context k = do
  types ← try_map (condition_type columns) (option_list filter)
  rows ← remaining columns context (option_list filter) t.rows
  Ok (with_rows t rows, (k, length t.rows - length rows))

abbrev pub deleted : List ℕ → Rows → Option Expr → Context → ℕ → Result Made SqlFault
deleted name t filter context k = left_over (own_columns name t) t filter context k
