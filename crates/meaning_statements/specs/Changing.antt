-- What CREATE TABLE, DROP TABLE, INSERT, UPDATE and DELETE make of tables.
use Rattle.std.specs.Prelude.{ℕ, ◌+◌, ◌-◌, ◌==◌, ◌&&◌, ◌++◌, Bool, true, false, not, List, [], ◌∷◌, length, map, bytes_eq, Option, Some, None, is_none, Result, Ok, Err, if◌then◌else◌, nat_le, nat_lt}
use Rattle.std.specs.List.{list_any, zip}
use Rattle.dl_base.specs.Limits.{most_columns, most_rows, most_tables, row_numbers}
use Rattle.dl_base.specs.declared.answer.Limit.TheVariants as limits
use Rattle.dl_base.specs.declared.column.Column.{Column}
use Rattle.dl_base.specs.declared.sql_fault.SqlFault.{SqlFault}
use Rattle.dl_base.specs.declared.sql_fault.SqlFault.TheVariants as faults
use Rattle.dl_base.specs.declared.statement.ColumnDef.{ColumnDef}
use Rattle.dl_base.specs.declared.statement.Expr.{Expr}
use Rattle.dl_base.specs.declared.statement.Stmt.{Stmt}
use Rattle.dl_base.specs.declared.statement.Stmt.TheVariants as statements
use Rattle.dl_base.specs.declared.value.Row.{Row}
use Rattle.dl_base.specs.declared.value.Value.{Value}
use Rattle.dl_base.specs.declared.value.Value.TheVariants as values
use Rattle.meaning_sql.specs.declared.Context.{Context}
use Rattle.meaning_sql.specs.declared.SqlType.{SqlType}
use Rattle.meaning_sql.specs.declared.AggregateScope.TheVariants as scope
use Rattle.meaning_sql.specs.Columns.{Columns}
use Rattle.meaning_sql.specs.Faults.{◌>>=◌, typed, ensure, option_list, try_map, try_filter}
use Rattle.meaning_sql.specs.Types.{type_of}
use Rattle.meaning_sql.specs.Values.{meaning, cell}
use Rattle.meaning_statements.specs.Assigning.{is_assignable, kind_of_column, stored_row}
use Rattle.meaning_sql.specs.Conditions.{condition_type, holds_all}
use Rattle.meaning_statements.specs.Creating.{columns_made}
use Rattle.meaning_statements.specs.Sources.{no_row, present, own_columns}
use Rattle.meaning_tables.specs.Fits.{repeated_key}
use Rattle.meaning_tables.specs.Tables.{Rows, Tables, new_table, table_of, with_table, without_table}

-- the tables after a statement, the next link number, and the number of rows that it put in, met or removed
pub record Changed : Type 0 where
  pub tables : Tables
  pub next : ℕ
  pub count : ℕ

-- after the whole change: the first row whose key is that of an earlier row
abbrev pub duplicate : Option ℕ → Result Bool SqlFault
duplicate None = Ok true
duplicate (Some number) = Err (faults.DupKey number)

abbrev pub keys_hold : Rows → Result Bool SqlFault
keys_hold t = duplicate (repeated_key t)

-- CREATE TABLE and DROP TABLE

unfoldable pub create : Tables → List ℕ → List ColumnDef → ℕ → Result Changed SqlFault
create tables name columns k = do
  absent ← ensure (is_none (table_of tables name)) (faults.TableExists name)
  room ← ensure (nat_lt (length tables) most_tables) (faults.Limit limits.Tables)
  few ← ensure (nat_le (length columns) most_columns) (faults.Limit limits.Columns)
  made ← columns_made [] false columns
  Ok (record { tables = tables ++ (name, new_table made) ∷ []; next = k; count = 0 })

unfoldable pub drop_table : Tables → List ℕ → ℕ → Result Changed SqlFault
drop_table tables name k = do
  t ← present name (table_of tables name)
  Ok (record { tables = without_table tables name; next = k; count = 0 })

-- Columns that a statement names, and their types.

abbrev pub place_named : List ℕ → ℕ → List Column → Result ℕ SqlFault
place_named n i [] = Err (faults.NoColumn n)
place_named n i (c ∷ cs) = if bytes_eq n c.name then Ok i else place_named n (i + 1) cs

-- the places of the named columns, in order; a name that is none, or that stood before, is refused
abbrev pub set_places : List Column → List (List ℕ) → List (List ℕ) → Result (List ℕ) SqlFault
set_places columns seen [] = Ok []
set_places columns seen (n ∷ ns) =
    place_named n 0 columns >>= λ i. ensure (not (list_any (bytes_eq n) seen)) (faults.Ambiguous n) >>= λ u. set_places columns (n ∷ seen) ns >>= λ is. Ok (i ∷ is)

abbrev pub all_places : ℕ → List Column → List ℕ
all_places i [] = []
all_places i (c ∷ cs) = i ∷ all_places (i + 1) cs

-- without a list, all columns in order
abbrev pub target_places : List Column → Option (List (List ℕ)) → Result (List ℕ) SqlFault
target_places columns (Some names) = set_places columns [] names
target_places columns None = Ok (all_places 0 columns)

-- the types of values fit the columns at these places
abbrev pub assigned : List Column → List ℕ → List SqlType → Result (List SqlType) SqlFault
assigned columns places types = try_map (λ p. typed (is_assignable (kind_of_column columns p.0) p.1) p.1) (zip places types)

-- INSERT

-- the value for the column at place i: that at the same place of the tuple where the column is named, else NULL
abbrev pub value_for : ℕ → List ℕ → Row → ℕ → Value
value_for j [] tuple i = values.Null
value_for j (p ∷ ps) tuple i = if p == i then cell tuple j else value_for (j + 1) ps tuple i

abbrev pub arranged : ℕ → List Column → List ℕ → Row → List Value
arranged i [] places tuple = []
arranged i (c ∷ cs) places tuple = value_for 0 places tuple i ∷ arranged (i + 1) cs places tuple

-- whether a table takes so many more rows
abbrev pub has_room : Rows → ℕ → Bool
has_room t more = nat_le (length t.rows + more) most_rows && nat_le (t.next + more) row_numbers

-- the row of a tuple; its expressions see the given columns at the given row, which are none
unfoldable pub inserted_row : Context → Columns → Row → List Column → List ℕ → ℕ → List Expr → Result (List Value × ℕ) SqlFault
inserted_row context seen at columns places k tuple =
    try_map (λ e. meaning seen context [] e at) tuple >>= λ vs. stored_row context.tx k 0 columns no_row (record { values = arranged 0 columns places (record { values = vs }) })

-- tuples in order, under row numbers from one on
abbrev pub inserted_rows : Context → Columns → Row → List Column → List ℕ → ℕ → ℕ → List (List Expr) → Result (List (ℕ × Row) × ℕ) SqlFault
inserted_rows context seen at columns places number k [] = Ok ([], k)
inserted_rows context seen at columns places number k (t ∷ ts) =
    inserted_row context seen at columns places k t >>= λ row.
    inserted_rows context seen at columns places (number + 1) row.1 ts >>= λ rest.
    Ok ((number, record { values = row.0 }) ∷ rest.0, rest.1)

unfoldable pub insert : Tables → List ℕ → Option (List (List ℕ)) → List (List Expr) → Context → ℕ → Result Changed SqlFault
insert tables name names tuples context k = do
  t ← present name (table_of tables name)
  places ← target_places t.columns names
  lengths ← try_map (λ es. ensure (length es == length places) faults.Arity) tuples
  types ← try_map (try_map (type_of [] scope.Row)) tuples
  fit ← try_map (assigned t.columns places) types
  rows ← inserted_rows context [] no_row t.columns places t.next k tuples
  room ← ensure (has_room t (length tuples)) (faults.Limit limits.Rows)
  let after = record t { next = t.next + length tuples; rows = t.rows ++ rows.0 }
  keys ← keys_hold after
  Ok (record { tables = with_table tables name after; next = rows.1; count = length tuples })

-- UPDATE

-- the new value of the column at place i, where it is set, else the old one
abbrev pub new_cell : ℕ → List ℕ → Row → ℕ → Value → Value
new_cell j [] news i old = old
new_cell j (p ∷ ps) news i old = if p == i then cell news j else new_cell (j + 1) ps news i old

abbrev pub with_cells : List ℕ → Row → ℕ → List Value → List Value
with_cells places news i [] = []
with_cells places news i (v ∷ old) = new_cell 0 places news i v ∷ with_cells places news (i + 1) old

-- the new values of a row that is met: right sides on the old row, then column by column
unfoldable pub updated_row : Columns → Context → List Column → List ℕ → List Expr → ℕ → Row → Result (List Value × ℕ) SqlFault
updated_row all context columns places rights k row =
    try_map (λ e. meaning all context [] e row) rights >>= λ vs. stored_row context.tx k 0 columns row (record { values = with_cells places (record { values = vs }) 0 row.values })

-- rows in order: each one's conditions, then its new values; and how many were met
abbrev pub updated_rows : Columns → Context → List Column → List Expr → List ℕ → List Expr → ℕ → List (ℕ × Row) → Result (List (ℕ × Row) × (ℕ × ℕ)) SqlFault
updated_rows all context columns conditions places rights k [] = Ok ([], (k, 0))
updated_rows all context columns conditions places rights k (r ∷ rs) =
    holds_all all context conditions r.1 >>= λ met.
    (if met then updated_row all context columns places rights k r.1 else Ok (r.1.values, k)) >>= λ one.
    updated_rows all context columns conditions places rights one.1 rs >>= λ rest.
    Ok ((r.0, record { values = one.0 }) ∷ rest.0, (rest.1.0, rest.1.1 + (if met then 1 else 0)))

unfoldable pub update : Tables → List ℕ → List (List ℕ × Expr) → Option Expr → Context → ℕ → Result Changed SqlFault
update tables name sets filter context k = do
  t ← present name (table_of tables name)
  places ← set_places t.columns [] (map (λ s. s.0) sets)
  let columns = own_columns name t
  types ← try_map (λ s. type_of columns scope.Row s.1) sets
  conditions ← try_map (condition_type columns) (option_list filter)
  fit ← assigned t.columns places types
  rows ← updated_rows columns context t.columns (option_list filter) places (map (λ s. s.1) sets) k t.rows
  let after = record t { rows = rows.0 }
  keys ← keys_hold after
  Ok (record { tables = with_table tables name after; next = rows.1.0; count = rows.1.1 })

-- DELETE

abbrev pub remaining : Columns → Context → List Expr → List (ℕ × Row) → Result (List (ℕ × Row)) SqlFault
remaining columns context conditions rows = try_filter (λ r. holds_all columns context conditions r.1 >>= λ met. Ok (not met)) rows

unfoldable pub delete : Tables → List ℕ → Option Expr → Context → ℕ → Result Changed SqlFault
delete tables name filter context k = do
  t ← present name (table_of tables name)
  let columns = own_columns name t
  types ← try_map (condition_type columns) (option_list filter)
  rows ← remaining columns context (option_list filter) t.rows
  Ok (record { tables = with_table tables name (record t { rows = rows }); next = k; count = length t.rows - length rows })

-- The whole. The other statements change nothing.
abbrev pub change : Tables → Stmt → Context → ℕ → Result Changed SqlFault
change tables (statements.CreateTable name columns) context k = create tables name columns k
change tables (statements.DropTable name) context k = drop_table tables name k
change tables (statements.Insert name names tuples) context k = insert tables name names tuples context k
change tables (statements.Update name sets filter) context k = update tables name sets filter context k
change tables (statements.Delete name filter) context k = delete tables name filter context k
change tables _ context k = Ok (record { tables = tables; next = k; count = 0 })
