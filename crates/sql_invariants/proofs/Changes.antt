-- What CREATE TABLE, DROP TABLE, INSERT, UPDATE and DELETE make of tables.
use Rattle.std.proofs.Common.{◌≡◌, ◌+◌, ◌++◌, ◌==◌, ℕ, Bool, true, false, not, List, [], ◌∷◌, map, length, Option, Some, None, is_none, Result, Ok, nat_le, nat_lt, ◌-◌, refl, ap, ◌∙◌, subst}
use Rattle.std.specs.List.{list_any, list_all}
use Rattle.std.proofs.lemmas.Bool.{and_parts, and_from}
use Rattle.std.proofs.lemmas.List.Folds.{list_all-append}
use Rattle.dl_base.specs.Limits.{most_columns, most_tables}
use Rattle.dl_base.specs.declared.answer.Limit.TheVariants as limits
use Rattle.dl_base.specs.declared.column.Column.{Column}
use Rattle.dl_base.specs.declared.sql_fault.SqlFault.{SqlFault}
use Rattle.dl_base.specs.declared.sql_fault.SqlFault.TheVariants as faults
use Rattle.dl_base.specs.declared.statement.ColumnDef.{ColumnDef}
use Rattle.dl_base.specs.declared.statement.Expr.{Expr}
use Rattle.dl_base.specs.declared.statement.Stmt.{Stmt}
use Rattle.dl_base.specs.declared.statement.Stmt.TheVariants as statements
use Rattle.dl_base.specs.declared.value.Row.{Row}
use Rattle.meaning_sql.specs.declared.Context.{Context}
use Rattle.meaning_sql.specs.declared.AggregateScope.TheVariants as scope
use Rattle.meaning_sql.specs.Faults.{◌>>=◌, ensure, option_list, try_map}
use Rattle.meaning_sql.specs.Types.{type_of}
use Rattle.meaning_statements.specs.Changing.{Changed, has_room, change, create, drop_table, insert, update, delete, duplicate, keys_hold, target_places, set_places, assigned, inserted_rows, updated_rows, remaining}
use Rattle.meaning_sql.specs.Conditions.{condition_type, holds_all}
use Rattle.meaning_statements.specs.Creating.{columns_made}
use Rattle.meaning_statements.specs.Sources.{no_row, present, own_columns}
use Rattle.meaning_tables.specs.Fits.{table_fits, repeated_key, is_key}
use Rattle.meaning_tables.specs.Links.{links, row_links}
use Rattle.meaning_tables.specs.Tables.{Rows, Tables, table_of, with_table}
use Rattle.sql_invariants.proofs.Left.{kept_left, left_pass, left_walk, still_differ}
use Rattle.sql_invariants.proofs.Made.{ValuesAreTyped, OldsFit, RowsMade, row_fits_in, rows_links, rows_inserted, rows_updated}
use Rattle.sql_invariants.proofs.Put.{TablesMade, put, removed, added}
use Rattle.sql_invariants.proofs.Steps.{go_on, given, ok}
use Rattle.sql_invariants.proofs.Walks.{Walk, after, all_kept}

-- what a change makes of tables
abbrev IsMade : ℕ → ℕ → Tables → Changed → Type 0
IsMade tx k tables c = TablesMade tx k c.next tables c.tables

pub is_there : (name : List ℕ) (found : Option Rows) (t : Rows) → present name found ≡ Ok t → found ≡ Some t
is_there name (Some x) t is = let same : x ≡ t = given x t is in ap (λ r. Some r) same
is_there name None t is = absurd (cc)

none_twice : (found : Option ℕ) (b : Bool) → duplicate found ≡ Ok b → is_none found ≡ true
none_twice None b is = refl
none_twice (Some n) b is = absurd (cc)

created : (tables : Tables) (name : List ℕ) (columns : List ColumnDef) (tx k : ℕ) (c : Changed) → create tables name columns k ≡ Ok c → IsMade tx k tables c
unfolding create
created tables name columns tx k c is =
    go_on (ensure (is_none (table_of tables name)) (faults.TableExists name)) is λ absent _ is.
    go_on (ensure (nat_lt (length tables) most_tables) (faults.Limit limits.Tables)) is λ room _ is.
    go_on (ensure (nat_le (length columns) most_columns) (faults.Limit limits.Columns)) is λ few _ is.
    go_on (columns_made [] false columns) is λ made _ is.
    subst (λ (d : Changed). IsMade tx k tables d) (given _ c is) (added tx k tables name made)

dropped : (tables : Tables) (name : List ℕ) (tx k : ℕ) (c : Changed) → drop_table tables name k ≡ Ok c → IsMade tx k tables c
unfolding drop_table
dropped tables name tx k c is =
    go_on (present name (table_of tables name)) is λ t _ is.
    subst (λ (d : Changed). IsMade tx k tables d) (given _ c is) (removed tx k tables name)

rows_fit : (t : Rows) → table_fits t ≡ true → list_all (row_fits_in t.columns) t.rows ≡ true
rows_fit t fits = (and_parts (list_all (row_fits_in t.columns) t.rows) (is_none (repeated_key t)) fits).0

keys_differ : (t : Rows) → table_fits t ≡ true → is_none (repeated_key t) ≡ true
keys_differ t fits = (and_parts (list_all (row_fits_in t.columns) t.rows) (is_none (repeated_key t)) fits).1

-- rows behind those of a table
behind : (tx k next : ℕ) (columns : List Column) (rows more : List (ℕ × Row)) → Walk tx k next [] (rows_links columns more) → Walk tx k next (rows_links columns rows) (rows_links columns (rows ++ more))
behind tx k next columns [] more walk = walk
behind tx k next columns (r ∷ rs) more walk = after (all_kept tx k (row_links columns r.1.values)) (behind tx k next columns rs more walk)

-- a table has more rows
grown : (tx k next : ℕ) (tables : Tables) (name : List ℕ) (t : Rows) (number : ℕ) (more : List (ℕ × Row)) (b : Bool) → table_of tables name ≡ Some t → RowsMade ValuesAreTyped tx k next t.columns [] more
    → keys_hold (record t { next = number; rows = t.rows ++ more }) ≡ Ok b → (count : ℕ) (c : Changed)
    → ok (record { tables = with_table tables name (record t { next = number; rows = t.rows ++ more }); next = next; count = count }) ≡ Ok c → IsMade tx k tables c
grown tx k next tables name t number more b there made keys count c is =
    let after : Rows = record t { next = number; rows = t.rows ++ more } in
    let all = λ (law : ValuesAreTyped) (fits : table_fits t ≡ true).
    list_all-append (row_fits_in t.columns) t.rows more ∙ and_from (list_all (row_fits_in t.columns) t.rows) (list_all (row_fits_in t.columns) more) (rows_fit t fits) (made.fit law) in
    subst (λ (d : Changed). IsMade tx k tables d) (given _ c is) (put tx k next tables name t after there (record {
      fits = λ law fits. and_from (list_all (row_fits_in t.columns) (t.rows ++ more)) (is_none (repeated_key after)) (all law fits) (none_twice (repeated_key after) b keys);
      walk = behind tx k next t.columns t.rows more made.walk;
    }))

inserted : (tables : Tables) (name : List ℕ) (names : Option (List (List ℕ))) (tuples : List (List Expr)) (context : Context) (k : ℕ) (c : Changed)
    → insert tables name names tuples context k ≡ Ok c → IsMade context.tx k tables c
unfolding insert
inserted tables name names tuples context k c is =
    go_on (present name (table_of tables name)) is λ t found is.
    go_on (target_places t.columns names) is λ places _ is.
    go_on (try_map (λ es. ensure (length es == length places) faults.Arity) tuples) is λ lengths _ is.
    go_on (try_map (try_map (type_of [] scope.Row)) tuples) is λ types typed is.
    go_on (try_map (assigned t.columns places) types) is λ kept takes is.
    go_on (inserted_rows context [] no_row t.columns places t.next k tuples) is λ rows put_in is.
    go_on (ensure (has_room t (length tuples)) (faults.Limit limits.Rows)) is λ room _ is.
    go_on (keys_hold (record t { next = t.next + length tuples; rows = t.rows ++ rows.0 })) is λ keys hold is.
    grown context.tx k rows.1 tables name t (t.next + length tuples) rows.0 keys (is_there name (table_of tables name) t found)
    (rows_inserted context t.columns places t.next k tuples types kept rows typed takes put_in) hold (length tuples) c is

each_map : {A B C : Type 0} (f : B → Result C SqlFault) (g : A → B) (xs : List A) → try_map f (map g xs) ≡ try_map (λ x. f (g x)) xs
each_map f g [] = refl
each_map f g (x ∷ xs) = rw (each_map f g xs) refl

-- a table has other rows under its numbers
changed : (tx k next : ℕ) (tables : Tables) (name : List ℕ) (t : Rows) (rows : List (ℕ × Row)) → table_of tables name ≡ Some t → RowsMade (OldsFit t.columns t.rows) tx k next t.columns t.rows rows
    → (table_fits t ≡ true → is_none (repeated_key (record t { rows = rows })) ≡ true) → (count : ℕ) (c : Changed)
    → ok (record { tables = with_table tables name (record t { rows = rows }); next = next; count = count }) ≡ Ok c → IsMade tx k tables c
changed tx k next tables name t rows there made keys count c is =
    let after : Rows = record t { rows = rows } in
    subst (λ (d : Changed). IsMade tx k tables d) (given _ c is) (put tx k next tables name t after there (record {
      fits = λ law fits. and_from (list_all (row_fits_in t.columns) rows) (is_none (repeated_key after)) (made.fit (law, rows_fit t fits)) (keys fits);
      walk = made.walk;
    }))

updated : (tables : Tables) (name : List ℕ) (sets : List (List ℕ × Expr)) (filter : Option Expr) (context : Context) (k : ℕ) (c : Changed)
    → update tables name sets filter context k ≡ Ok c → IsMade context.tx k tables c
unfolding update
updated tables name sets filter context k c is =
    go_on (present name (table_of tables name)) is λ t found is.
    go_on (set_places t.columns [] (map (λ s. s.0) sets)) is λ places _ is.
    go_on (try_map (λ s. type_of (own_columns name t) scope.Row s.1) sets) is λ types typed is.
    go_on (try_map (condition_type (own_columns name t)) (option_list filter)) is λ conditions _ is.
    go_on (assigned t.columns places types) is λ kept takes is.
    go_on (updated_rows (own_columns name t) context t.columns (option_list filter) places (map (λ s. s.1) sets) k t.rows) is λ rows put_in is.
    go_on (keys_hold (record t { rows = rows.0 })) is λ keys hold is.
    let made = rows_updated name context t.columns (option_list filter) places (map (λ s. s.1) sets) types kept k t.rows rows (each_map (type_of (own_columns name t) scope.Row) (λ s. s.1) sets ∙ typed) takes put_in in
    changed context.tx k rows.1.0 tables name t rows.0 (is_there name (table_of tables name) t found) made (λ fits. none_twice (repeated_key (record t { rows = rows.0 })) keys hold) rows.1.1 c is

deleted : (tables : Tables) (name : List ℕ) (filter : Option Expr) (context : Context) (k : ℕ) (c : Changed) → delete tables name filter context k ≡ Ok c → IsMade context.tx k tables c
unfolding delete
deleted tables name filter context k c is =
    go_on (present name (table_of tables name)) is λ t found is.
    go_on (try_map (condition_type (own_columns name t)) (option_list filter)) is λ types _ is.
    go_on (remaining (own_columns name t) context (option_list filter) t.rows) is λ rows left is.
    let stay = kept_left (λ (r : ℕ × Row). holds_all (own_columns name t) context (option_list filter) r.1 >>= λ met. Ok (not met)) t.rows rows left in
    let made : RowsMade (OldsFit t.columns t.rows) context.tx k k t.columns t.rows rows = record { fit = λ old. left_pass (row_fits_in t.columns) stay old.1; walk = left_walk context.tx k t.columns stay } in
    changed context.tx k k tables name t rows (is_there name (table_of tables name) t found) made
    (λ fits. still_differ t.columns (list_any (λ (x : Column). is_key x.rule) t.columns) stay (keys_differ t fits)) (length t.rows - length rows) c is

unchanged : (tables : Tables) (tx k : ℕ) (c : Changed) → (record { tables = tables; next = k; count = 0 }) ≡ c → IsMade tx k tables c
unchanged tables tx k c is = subst (λ (d : Changed). IsMade tx k tables d) is (record { fit = λ law fit. fit; walk = all_kept tx k (links tables) })

pub change_made : (tables : Tables) (stmt : Stmt) (context : Context) (k : ℕ) (c : Changed) → change tables stmt context k ≡ Ok c → IsMade context.tx k tables c
change_made tables (statements.CreateTable name columns) context k c is = created tables name columns context.tx k c is
change_made tables (statements.DropTable name) context k c is = dropped tables name context.tx k c is
change_made tables (statements.Insert name names tuples) context k c is = inserted tables name names tuples context k c is
change_made tables (statements.Update name sets filter) context k c is = updated tables name sets filter context k c is
change_made tables (statements.Delete name filter) context k c is = deleted tables name filter context k c is
change_made tables statements.Begin context k c is = unchanged tables context.tx k c (given _ c is)
change_made tables statements.Commit context k c is = unchanged tables context.tx k c (given _ c is)
change_made tables statements.Rollback context k c is = unchanged tables context.tx k c (given _ c is)
change_made tables (statements.Select query) context k c is = unchanged tables context.tx k c (given _ c is)
