-- Steps of a proof, which nobody need read: `selected` over `sources_of` equals `select` of the meaning of statements (`Selecting`).
-- What is known before a row is looked at, and the rows.
use Rattle.std.specs.Prelude.{ℕ, ◌++◌, Bool, List, Result, Ok}
use Rattle.dl_base.specs.declared.answer.Limit.TheVariants as limits
use Rattle.dl_base.specs.declared.sql_fault.SqlFault.{SqlFault}
use Rattle.dl_base.specs.declared.sql_fault.SqlFault.TheVariants as faults
use Rattle.dl_base.specs.declared.statement.Select.{Select}
use Rattle.dl_base.specs.declared.value.Row.{Row}
use Rattle.meaning_sql.specs.declared.Context.{Context}
use Rattle.meaning_sql.specs.Columns.{Columns}
use Rattle.meaning_sql.specs.Faults.{◌>>=◌, ensure, try_map, option_list}
use Rattle.meaning_sql.specs.Conditions.{condition_type}
use Rattle.meaning_statements.specs.Lists.{sorted}
use Rattle.meaning_statements.specs.Selecting.{are_few, scope_of, group_place, combined, is_before}
use Rattle.meaning_statements.specs.Sources.{Source, columns_of}
use Rattle.sql_query.specs.Answering.{answers_of}
use Rattle.sql_query.specs.Items.{types_of, key_found}

-- the places of GROUP BY, and the keys of ORDER BY
unfoldable pub planned : Columns → Select → Result (List ℕ × List (ℕ × Bool)) SqlFault
planned columns q = do
  joins ← try_map (condition_type columns) q.conditions
  types ← types_of columns (scope_of columns q) q.items
  filter ← try_map (condition_type columns) (option_list q.filter)
  group ← try_map (group_place columns) q.group
  order_keys ← try_map (key_found columns q.items (scope_of columns q)) q.order
  Ok (group, order_keys)

-- the rows, by those places and keys
unfoldable pub answered : Columns → List Source → Select → Context → List ℕ → List (ℕ × Bool) → Result (List Row) SqlFault
answered columns sources q context places order_keys = do
  rows ← combined sources context (q.conditions ++ option_list q.filter)
  answers ← answers_of columns context q places rows
  Ok (sorted (is_before order_keys) answers)

-- the rows that a query gives over sources of these columns
unfoldable pub chosen : Columns → List Source → Select → Context → Result (List Row) SqlFault
chosen columns sources q context = do
  p ← planned columns q
  few ← ensure (are_few sources) (faults.Limit limits.Product)
  answered columns sources q context p.0 p.1

abbrev pub selected : List Source → Select → Context → Result (List Row) SqlFault
selected sources q context = chosen (columns_of sources) sources q context
