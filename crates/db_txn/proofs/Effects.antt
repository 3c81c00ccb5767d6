-- A statement changes one table at most: it makes it where there is room, drops it, or puts other rows in its place.
use Rattle.std.proofs.Common.{◌≡◌, ◌+◌, ◌++◌, ◌==◌, ℕ, true, false, List, [], ◌∷◌, map, length, Option, Some, is_none, Ok, nat_le, nat_lt, refl, ap}
use Rattle.dl_base.specs.Limits.{most_columns, most_tables}
use Rattle.dl_base.specs.declared.answer.Limit.TheVariants as limits
use Rattle.dl_base.specs.declared.column.Column.{Column}
use Rattle.dl_base.specs.declared.sql_fault.SqlFault.TheVariants as faults
use Rattle.dl_base.specs.declared.statement.ColumnDef.{ColumnDef}
use Rattle.dl_base.specs.declared.statement.Expr.{Expr}
use Rattle.dl_base.specs.declared.statement.Stmt.{Stmt}
use Rattle.dl_base.specs.declared.statement.Stmt.TheVariants as statements
use Rattle.meaning_merge.specs.History.{changed_by}
use Rattle.meaning_sql.specs.declared.AggregateScope.TheVariants as scope
use Rattle.meaning_sql.specs.declared.Context.{Context}
use Rattle.meaning_sql.specs.Conditions.{condition_type}
use Rattle.meaning_sql.specs.Faults.{ensure, option_list, try_map}
use Rattle.meaning_sql.specs.Types.{type_of}
use Rattle.meaning_statements.specs.Changing.{Changed, assigned, change, create, delete, drop_table, has_room, insert, inserted_rows, keys_hold, remaining, set_places, target_places, update, updated_rows}
use Rattle.meaning_statements.specs.Creating.{columns_made}
use Rattle.meaning_statements.specs.Sources.{no_row, own_columns, present}
use Rattle.meaning_tables.specs.Tables.{Rows, Tables, new_table, table_of, with_table, without_table}
use Rattle.sql_invariants.proofs.Changes.{is_there}
use Rattle.sql_invariants.proofs.Steps.{given, go_on, held}

pub data Effect (name : List ℕ) (tables after : Tables) : Type 0 where
  made : (columns : List Column) → nat_lt (length tables) most_tables ≡ true → tables ++ (name, new_table columns) ∷ [] ≡ after → Effect name tables after
  gone : without_table tables name ≡ after → Effect name tables after
  put : (t later : Rows) → table_of tables name ≡ Some t → later.version ≡ t.version → with_table tables name later ≡ after → Effect name tables after

abbrev pub EffectOf : List (List ℕ) → Tables → Tables → Type 0
EffectOf [] tables after = tables ≡ after
EffectOf (name ∷ names) tables after = Effect name tables after

created : (tables : Tables) (name : List ℕ) (columns : List ColumnDef) (k : ℕ) (c : Changed) → create tables name columns k ≡ Ok c → Effect name tables c.tables
unfolding create
created tables name columns k c is =
    go_on (ensure (is_none (table_of tables name)) (faults.TableExists name)) is λ absent none is.
    go_on (ensure (nat_lt (length tables) most_tables) (faults.Limit limits.Tables)) is λ room left is.
    go_on (ensure (nat_le (length columns) most_columns) (faults.Limit limits.Columns)) is λ few may is.
    go_on (columns_made [] false columns) is λ cs are is.
    made cs (held (nat_lt (length tables) most_tables) true room (faults.Limit limits.Tables) left).test (ap (λ (d : Changed). d.tables) (given _ c is))

dropped : (tables : Tables) (name : List ℕ) (k : ℕ) (c : Changed) → drop_table tables name k ≡ Ok c → Effect name tables c.tables
unfolding drop_table
dropped tables name k c is =
    go_on (present name (table_of tables name)) is λ t found is.
    gone (ap (λ (d : Changed). d.tables) (given _ c is))

inserted : (tables : Tables) (name : List ℕ) (names : Option (List (List ℕ))) (tuples : List (List Expr)) (context : Context) (k : ℕ) (c : Changed) → insert tables name names tuples context k ≡ Ok c → Effect name tables c.tables
unfolding insert
inserted tables name names tuples context k c is =
    go_on (present name (table_of tables name)) is λ t found is.
    go_on (target_places t.columns names) is λ places _ is.
    go_on (try_map (λ es. ensure (length es == length places) faults.Arity) tuples) is λ lengths _ is.
    go_on (try_map (try_map (type_of [] scope.Row)) tuples) is λ types _ is.
    go_on (try_map (assigned t.columns places) types) is λ kept _ is.
    go_on (inserted_rows context [] no_row t.columns places t.next k tuples) is λ rows put_in is.
    go_on (ensure (has_room t (length tuples)) (faults.Limit limits.Rows)) is λ room _ is.
    go_on (keys_hold (record t { next = t.next + length tuples; rows = t.rows ++ rows.0 })) is λ keys _ is.
    put t (record t { next = t.next + length tuples; rows = t.rows ++ rows.0 }) (is_there name (table_of tables name) t found) refl (ap (λ (d : Changed). d.tables) (given _ c is))

updated : (tables : Tables) (name : List ℕ) (sets : List (List ℕ × Expr)) (filter : Option Expr) (context : Context) (k : ℕ) (c : Changed) → update tables name sets filter context k ≡ Ok c → Effect name tables c.tables
unfolding update
updated tables name sets filter context k c is =
    go_on (present name (table_of tables name)) is λ t found is.
    go_on (set_places t.columns [] (map (λ s. s.0) sets)) is λ places _ is.
    go_on (try_map (λ s. type_of (own_columns name t) scope.Row s.1) sets) is λ types _ is.
    go_on (try_map (condition_type (own_columns name t)) (option_list filter)) is λ conditions _ is.
    go_on (assigned t.columns places types) is λ kept _ is.
    go_on (updated_rows (own_columns name t) context t.columns (option_list filter) places (map (λ s. s.1) sets) k t.rows) is λ rows put_in is.
    go_on (keys_hold (record t { rows = rows.0 })) is λ keys _ is.
    put t (record t { rows = rows.0 }) (is_there name (table_of tables name) t found) refl (ap (λ (d : Changed). d.tables) (given _ c is))

deleted : (tables : Tables) (name : List ℕ) (filter : Option Expr) (context : Context) (k : ℕ) (c : Changed) → delete tables name filter context k ≡ Ok c → Effect name tables c.tables
unfolding delete
deleted tables name filter context k c is =
    go_on (present name (table_of tables name)) is λ t found is.
    go_on (try_map (condition_type (own_columns name t)) (option_list filter)) is λ types _ is.
    go_on (remaining (own_columns name t) context (option_list filter) t.rows) is λ rows left is.
    put t (record t { rows = rows }) (is_there name (table_of tables name) t found) refl (ap (λ (d : Changed). d.tables) (given _ c is))

unchanged : (tables : Tables) (k : ℕ) (c : Changed) → (record { tables = tables; next = k; count = 0 }) ≡ c → tables ≡ c.tables
unchanged tables k c is = ap (λ (d : Changed). d.tables) is

pub effect_of : (tables : Tables) (stmt : Stmt) (context : Context) (k : ℕ) (c : Changed) → change tables stmt context k ≡ Ok c → EffectOf (changed_by stmt) tables c.tables
effect_of tables (statements.CreateTable name columns) context k c is = created tables name columns k c is
effect_of tables (statements.DropTable name) context k c is = dropped tables name k c is
effect_of tables (statements.Insert name names tuples) context k c is = inserted tables name names tuples context k c is
effect_of tables (statements.Update name sets filter) context k c is = updated tables name sets filter context k c is
effect_of tables (statements.Delete name filter) context k c is = deleted tables name filter context k c is
effect_of tables statements.Begin context k c is = unchanged tables k c (given _ c is)
effect_of tables statements.Commit context k c is = unchanged tables k c (given _ c is)
effect_of tables statements.Rollback context k c is = unchanged tables k c (given _ c is)
effect_of tables (statements.Select query) context k c is = unchanged tables k c (given _ c is)
