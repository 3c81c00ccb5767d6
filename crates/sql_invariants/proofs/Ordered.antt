-- What each statement changes stays in order: names differ, and row numbers rise.
use Rattle.std.proofs.Common.{◌≡◌, ◌+◌, ◌++◌, ◌==◌, ℕ, true, false, not, List, [], map, length, Option, is_none, Ok, nat_le, nat_lt, subst, arith}
use Rattle.dl_base.specs.Limits.{most_columns, most_tables}
use Rattle.dl_base.specs.declared.answer.Limit.TheVariants as limits
use Rattle.dl_base.specs.declared.sql_fault.SqlFault.TheVariants as faults
use Rattle.dl_base.specs.declared.statement.ColumnDef.{ColumnDef}
use Rattle.dl_base.specs.declared.statement.Expr.{Expr}
use Rattle.dl_base.specs.declared.statement.Stmt.{Stmt}
use Rattle.dl_base.specs.declared.statement.Stmt.TheVariants as statements
use Rattle.dl_base.specs.declared.value.Row.{Row}
use Rattle.meaning_sql.specs.declared.Context.{Context}
use Rattle.meaning_sql.specs.declared.AggregateScope.TheVariants as scope
use Rattle.meaning_sql.specs.Faults.{◌>>=◌, ensure, option_list, try_map}
use Rattle.meaning_sql.specs.Types.{type_of}
use Rattle.meaning_statements.specs.Changing.{Changed, has_room, change, create, drop_table, insert, update, delete, keys_hold, target_places, set_places, assigned, inserted_rows, updated_rows, remaining}
use Rattle.meaning_sql.specs.Conditions.{condition_type, holds_all}
use Rattle.meaning_statements.specs.Creating.{columns_made}
use Rattle.meaning_statements.specs.Sources.{no_row, present, own_columns}
use Rattle.meaning_tables.specs.Tables.{Tables, new_table, table_of}
use Rattle.sql_invariants.specs.Ordered.{AreOrdered}
use Rattle.sql_invariants.proofs.Changes.{is_there}
use Rattle.sql_invariants.proofs.Left.{kept_left}
use Rattle.sql_invariants.proofs.Ordering.{found_ordered, put_ordered, removed_ordered, added_ordered}
use Rattle.sql_invariants.proofs.Rising.{inserted_rise, rise_behind, updated_rise, left_rise}
use Rattle.sql_invariants.proofs.Steps.{go_on, given, held}

created : (tables : Tables) (name : List ℕ) (columns : List ColumnDef) (k : ℕ) (c : Changed) → AreOrdered tables → create tables name columns k ≡ Ok c → AreOrdered c.tables
unfolding create
created tables name columns k c ordered is =
    go_on (ensure (is_none (table_of tables name)) (faults.TableExists name)) is λ absent none is.
    go_on (ensure (nat_lt (length tables) most_tables) (faults.Limit limits.Tables)) is λ room _ is.
    go_on (ensure (nat_le (length columns) most_columns) (faults.Limit limits.Columns)) is λ few _ is.
    go_on (columns_made [] false columns) is λ made _ is.
    let new = held (is_none (table_of tables name)) true absent (faults.TableExists name) none in
    subst (λ (d : Changed). AreOrdered d.tables) (given _ c is) (added_ordered tables name (new_table made) ordered new.test tt)

dropped : (tables : Tables) (name : List ℕ) (k : ℕ) (c : Changed) → AreOrdered tables → drop_table tables name k ≡ Ok c → AreOrdered c.tables
unfolding drop_table
dropped tables name k c ordered is =
    go_on (present name (table_of tables name)) is λ t _ is.
    subst (λ (d : Changed). AreOrdered d.tables) (given _ c is) (removed_ordered tables name ordered)

inserted : (tables : Tables) (name : List ℕ) (names : Option (List (List ℕ))) (tuples : List (List Expr)) (context : Context) (k : ℕ) (c : Changed) → AreOrdered tables → insert tables name names tuples context k ≡ Ok c → AreOrdered c.tables
unfolding insert
inserted tables name names tuples context k c ordered is =
    go_on (present name (table_of tables name)) is λ t found is.
    go_on (target_places t.columns names) is λ places _ is.
    go_on (try_map (λ es. ensure (length es == length places) faults.Arity) tuples) is λ lengths _ is.
    go_on (try_map (try_map (type_of [] scope.Row)) tuples) is λ types _ is.
    go_on (try_map (assigned t.columns places) types) is λ kept _ is.
    go_on (inserted_rows context [] no_row t.columns places t.next k tuples) is λ rows put_in is.
    go_on (ensure (has_room t (length tuples)) (faults.Limit limits.Rows)) is λ room _ is.
    go_on (keys_hold (record t { next = t.next + length tuples; rows = t.rows ++ rows.0 })) is λ keys _ is.
    let old = found_ordered tables name t ordered (is_there name (table_of tables name) t found) in
    let new = inserted_rise context [] no_row t.columns places t.next k tuples rows put_in in
    subst (λ (d : Changed). AreOrdered d.tables) (given _ c is)
    (put_ordered tables name (record t { next = t.next + length tuples; rows = t.rows ++ rows.0 }) ordered
    (rise_behind 0 t.next (t.next + length tuples) t.rows rows.0 (omega arith) (omega arith) old new))

updated : (tables : Tables) (name : List ℕ) (sets : List (List ℕ × Expr)) (filter : Option Expr) (context : Context) (k : ℕ) (c : Changed) → AreOrdered tables → update tables name sets filter context k ≡ Ok c → AreOrdered c.tables
unfolding update
updated tables name sets filter context k c ordered is =
    go_on (present name (table_of tables name)) is λ t found is.
    go_on (set_places t.columns [] (map (λ s. s.0) sets)) is λ places _ is.
    go_on (try_map (λ s. type_of (own_columns name t) scope.Row s.1) sets) is λ types _ is.
    go_on (try_map (condition_type (own_columns name t)) (option_list filter)) is λ conditions _ is.
    go_on (assigned t.columns places types) is λ kept _ is.
    go_on (updated_rows (own_columns name t) context t.columns (option_list filter) places (map (λ s. s.1) sets) k t.rows) is λ rows put_in is.
    go_on (keys_hold (record t { rows = rows.0 })) is λ keys _ is.
    let old = found_ordered tables name t ordered (is_there name (table_of tables name) t found) in
    subst (λ (d : Changed). AreOrdered d.tables) (given _ c is)
    (put_ordered tables name (record t { rows = rows.0 }) ordered
    (updated_rise (own_columns name t) context t.columns (option_list filter) places (map (λ s. s.1) sets) 0 t.next k t.rows rows put_in old))

deleted : (tables : Tables) (name : List ℕ) (filter : Option Expr) (context : Context) (k : ℕ) (c : Changed) → AreOrdered tables → delete tables name filter context k ≡ Ok c → AreOrdered c.tables
unfolding delete
deleted tables name filter context k c ordered is =
    go_on (present name (table_of tables name)) is λ t found is.
    go_on (try_map (condition_type (own_columns name t)) (option_list filter)) is λ types _ is.
    go_on (remaining (own_columns name t) context (option_list filter) t.rows) is λ rows left is.
    let old = found_ordered tables name t ordered (is_there name (table_of tables name) t found) in
    let stay = kept_left (λ (r : ℕ × Row). holds_all (own_columns name t) context (option_list filter) r.1 >>= λ met. Ok (not met)) t.rows rows left in
    subst (λ (d : Changed). AreOrdered d.tables) (given _ c is) (put_ordered tables name (record t { rows = rows }) ordered (left_rise 0 t.next stay old))

unchanged : (tables : Tables) (k : ℕ) (c : Changed) → AreOrdered tables → (record { tables = tables; next = k; count = 0 }) ≡ c → AreOrdered c.tables
unchanged tables k c ordered is = subst (λ (d : Changed). AreOrdered d.tables) is ordered

pub kept_ordered : (tables : Tables) (stmt : Stmt) (context : Context) (k : ℕ) (c : Changed) → AreOrdered tables → change tables stmt context k ≡ Ok c → AreOrdered c.tables
kept_ordered tables (statements.CreateTable name columns) context k c ordered is = created tables name columns k c ordered is
kept_ordered tables (statements.DropTable name) context k c ordered is = dropped tables name k c ordered is
kept_ordered tables (statements.Insert name names tuples) context k c ordered is = inserted tables name names tuples context k c ordered is
kept_ordered tables (statements.Update name sets filter) context k c ordered is = updated tables name sets filter context k c ordered is
kept_ordered tables (statements.Delete name filter) context k c ordered is = deleted tables name filter context k c ordered is
kept_ordered tables statements.Begin context k c ordered is = unchanged tables k c ordered (given _ c is)
kept_ordered tables statements.Commit context k c ordered is = unchanged tables k c ordered (given _ c is)
kept_ordered tables statements.Rollback context k c ordered is = unchanged tables k c ordered (given _ c is)
kept_ordered tables (statements.Select query) context k c ordered is = unchanged tables k c ordered (given _ c is)
