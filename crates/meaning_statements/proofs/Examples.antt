-- Small tables: what statements make of them, and what queries answer.
use Rattle.std.proofs.Common.{◌≡◌, ℕ, ◌++◌, Bool, true, false, List, [], ◌∷◌, length, codes, Option, Some, None, Result, Ok, Err, refl, sym, ap, ◌∙◌, pos}
use Rattle.dl_base.specs.declared.answer.Limit.TheVariants as limits
use Rattle.dl_base.specs.declared.column.Column.{Column}
use Rattle.dl_base.specs.declared.column.ColumnRule.{ColumnRule}
use Rattle.dl_base.specs.declared.column.ColumnRule.TheVariants as rules
use Rattle.dl_base.specs.declared.column.Kind.{Kind}
use Rattle.dl_base.specs.declared.column.Kind.TheVariants as kinds
use Rattle.dl_base.specs.declared.column.OnUnlink.TheVariants as unlink
use Rattle.dl_base.specs.declared.column.ReadBy.TheVariants as read
use Rattle.dl_base.specs.declared.column.WriteBy.TheVariants as write
use Rattle.dl_base.specs.declared.sql_fault.SqlFault.{SqlFault}
use Rattle.dl_base.specs.declared.sql_fault.SqlFault.TheVariants as faults
use Rattle.dl_base.specs.declared.statement.ColumnDef.{ColumnDef}
use Rattle.dl_base.specs.declared.statement.Expr.{Expr, fold-roll-Expr}
use Rattle.dl_base.specs.declared.statement.Expr.TheOpen as level
use Rattle.dl_base.specs.declared.statement.Expr.TheVariants as expressions
use Rattle.dl_base.specs.declared.statement.Integrity.TheVariants as integrity
use Rattle.dl_base.specs.declared.statement.KindDef.{KindDef}
use Rattle.dl_base.specs.declared.statement.KindDef.TheVariants as defs
use Rattle.dl_base.specs.declared.statement.KeyBy.TheVariants as keys
use Rattle.dl_base.specs.declared.statement.Op.{Op}
use Rattle.dl_base.specs.declared.statement.Op.TheVariants as ops
use Rattle.dl_base.specs.declared.statement.Ref.{Ref}
use Rattle.dl_base.specs.declared.statement.Stmt.TheVariants as statements
use Rattle.dl_base.specs.declared.statement.TableRef.{TableRef}
use Rattle.dl_base.specs.declared.value.LinkNo.{LinkNo}
use Rattle.dl_base.specs.declared.value.Row.{Row}
use Rattle.dl_base.specs.declared.value.Value.{Value}
use Rattle.dl_base.specs.declared.value.Value.TheVariants as values
use Rattle.meaning_sql.specs.declared.Context.{Context}
use Rattle.meaning_sql.specs.declared.SqlType.{SqlType}
use Rattle.meaning_sql.specs.declared.SqlType.TheVariants as types
use Rattle.meaning_sql.specs.declared.AggregateScope.{AggregateScope}
use Rattle.meaning_sql.specs.declared.AggregateScope.TheVariants as scope
use Rattle.meaning_sql.specs.Columns.{Columns, place_of}
use Rattle.meaning_sql.specs.Faults.{◌>>=◌}
use Rattle.meaning_sql.specs.Operators.{binary}
use Rattle.meaning_sql.specs.Types.{type_of, type_at, binary_type}
use Rattle.meaning_sql.specs.Values.{Denotation, denotation_at, meaning, cell}
use Rattle.meaning_statements.specs.Assigning.{stored, stored_row}
use Rattle.meaning_statements.specs.Changing.{change, has_room, create, drop_table, insert, inserted_row, update, updated_row, delete, set_places, arranged, with_cells, keys_hold}
use Rattle.meaning_statements.specs.Creating.{columns_made, db2_options}
use Rattle.meaning_statements.specs.Lists.{product, sorted}
use Rattle.meaning_statements.specs.Selecting.{are_few, has_aggregate, aggregate_at, star, units, is_before, group_place, key_place, key_of, select}
use Rattle.meaning_statements.specs.Sources.{Source, no_row, sources_of}
use Rattle.meaning_tables.specs.Tables.{Rows, Tables, new_table, table_of}

-- names of one letter: t is 116, k 107, v 118, d 100

abbrev column : ℕ → Kind → ColumnRule → Column
column letter kind rule = record { name = letter ∷ []; kind = kind; rule = rule }

abbrev written : ℕ → KindDef → ℕ → ℕ → ColumnDef
written letter kind not_null key = record { name = letter ∷ []; kind = kind; not_null = not_null; key = key }

abbrev keyed : Column
keyed = column 107 kinds.Int rules.Key

abbrev texts : Column
texts = column 118 (kinds.Text 2) rules.Plain

abbrev linked : Column
linked = column 100 (kinds.Linked db2_options) rules.Plain

abbrev row : List Value → Row
row cells = record { values = cells }

abbrev int : ℕ → Value
int n = values.Int (pos n)

abbrev rows_of : List (ℕ × Row) → Rows
rows_of rows = record { version = 0; columns = keyed ∷ texts ∷ []; next = 4; rows = rows }

abbrev tables : List (ℕ × Row) → Tables
tables rows = (116 ∷ [], rows_of rows) ∷ []

abbrev named : Rows → Source
named t = record { name = 116 ∷ []; table = t }

-- a datalink to the file of one letter
abbrev link : ℕ → Option LinkNo → Value
link letter number = values.Link (record { location = codes "http://fs1/x"; path = 47 ∷ letter ∷ []; comment = []; link = number })

abbrev numbered : ℕ → ℕ → Option LinkNo
numbered tx k = Some (record { tx = tx; k = k })

abbrev at_moment : Context
at_moment = record { server = codes "fs1"; key = []; now = 0; life = 60; tx = 9 }

-- CREATE TABLE and DROP TABLE

name_exists : change (tables []) (statements.CreateTable (116 ∷ []) []) at_moment 1 ≡ Err (faults.TableExists (116 ∷ []))
unfolding create
name_exists = refl

two_columns_of_a_name : columns_made [] false (written 107 defs.Integer 0 0 ∷ written 107 (defs.Varchar (pos 0)) 0 0 ∷ []) ≡ Err (faults.Ambiguous (107 ∷ []))
two_columns_of_a_name = refl

two_keys : columns_made [] false (written 107 defs.Integer 0 1 ∷ written 118 defs.Integer 0 1 ∷ []) ≡ Err faults.BadOptions
two_keys = refl

rule_written_twice : columns_made [] false (written 107 defs.Integer 2 0 ∷ []) ≡ Err faults.BadOptions
rule_written_twice = refl

not_null_on_a_datalink : columns_made [] false (written 100 defs.Free 1 0 ∷ []) ≡ Err faults.BadOptions
not_null_on_a_datalink = refl

not_null_key : columns_made [] false (written 107 defs.Integer 1 1 ∷ []) ≡ Ok (keyed ∷ [])
not_null_key = refl

text_of_4000_bytes : columns_made [] false (written 118 (defs.Varchar (pos 4000)) 0 0 ∷ []) ≡ Ok (column 118 (kinds.Text 4000) rules.Plain ∷ [])
text_of_4000_bytes = refl

text_of_4001_bytes : columns_made [] false (written 118 (defs.Varchar (pos 4001)) 0 2 ∷ []) ≡ Err (faults.TooLong (118 ∷ []))
text_of_4001_bytes = refl

no_row_of_options : columns_made [] false (written 100 (defs.Chosen integrity.All read.Db write.Fs false unlink.Nothing) 0 0 ∷ []) ≡ Err faults.BadOptions
no_row_of_options = refl

selective_integrity : columns_made [] false (written 100 (defs.Chosen integrity.Selective read.Fs write.Fs false unlink.Nothing) 0 0 ∷ []) ≡ Err faults.BadOptions
selective_integrity = refl

table_made : change [] (statements.CreateTable (116 ∷ []) (written 100 defs.Db2 0 0 ∷ [])) at_moment 1 ≡ Ok (record { tables = (116 ∷ [], record { version = 0; columns = linked ∷ []; next = 1; rows = [] }) ∷ []; next = 1; count = 0 })
unfolding create
table_made = refl

dropped_in_vain : change [] (statements.DropTable (116 ∷ [])) at_moment 1 ≡ Err (faults.NoTable (116 ∷ []))
unfolding drop_table
dropped_in_vain = refl

-- what is put into a cell

null_key : stored 9 1 keyed (int 1) values.Null ≡ Err (faults.NullKey (107 ∷ []))
unfolding stored
null_key = refl

two_bytes_fit : stored 9 1 texts values.Null (values.Text (codes "ab")) ≡ Ok (values.Text (codes "ab"), 1)
unfolding stored
two_bytes_fit = refl

three_bytes_are_too_long : stored 9 1 texts values.Null (values.Text (codes "abc")) ≡ Err (faults.TooLong (118 ∷ []))
unfolding stored
three_bytes_are_too_long = refl

first_column_first : stored_row 9 1 0 (keyed ∷ texts ∷ []) no_row (row (values.Null ∷ values.Text (codes "abc") ∷ [])) ≡ Err (faults.NullKey (107 ∷ []))
unfolding stored cell
first_column_first = refl

same_file : stored 9 4 linked (link 97 (numbered 5 1)) (link 97 None) ≡ Ok (link 97 (numbered 5 1), 4)
unfolding stored
same_file = refl

another_file : stored 9 4 linked (link 97 (numbered 5 1)) (link 98 None) ≡ Ok (link 98 (numbered 9 4), 5)
unfolding stored
another_file = refl

-- http://fs1/a was there
same_file_by_another_scheme : stored 9 4 linked (link 97 (numbered 5 1)) (values.Link (record { location = codes "file://fs1/a"; path = codes "/a"; comment = []; link = None })) ≡ Ok (values.Link (record { location = codes "file://fs1/a"; path = codes "/a"; comment = []; link = numbered 5 1 }), 4)
unfolding stored
same_file_by_another_scheme = refl

last_link : stored 9 1000000 linked values.Null (link 97 None) ≡ Ok (link 97 (numbered 9 1000000), 1000001)
unfolding stored
last_link = refl

link_past_the_last : stored 9 1000001 linked values.Null (link 97 None) ≡ Err (faults.Limit limits.Links)
unfolding stored
link_past_the_last = refl

-- also at the limit
kept_past_the_last : stored 9 1000001 linked (link 97 (numbered 5 1)) (link 97 None) ≡ Ok (link 97 (numbered 5 1), 1000001)
unfolding stored
kept_past_the_last = refl

no_control_no_number : stored 9 1 (column 100 kinds.Free rules.Plain) values.Null (link 97 (numbered 5 1)) ≡ Ok (link 97 None, 1)
unfolding stored
no_control_no_number = refl

-- the bounds

last_row : (rows : List (ℕ × Row)) → length rows ≡ 999999 → has_room (rows_of rows) 1 ≡ true
last_row rows h = rw h refl

row_past_the_last : (rows : List (ℕ × Row)) → length rows ≡ 1000000 → has_room (rows_of rows) 1 ≡ false
row_past_the_last rows h = rw h refl

ten_million_combined_rows : (a b : Rows) → length a.rows ≡ 10 → length b.rows ≡ 1000000 → are_few (named a ∷ named b ∷ []) ≡ true
ten_million_combined_rows a b h k = rw (h, k) refl

one_combined_row_more : (a b : Rows) → length a.rows ≡ 11 → length b.rows ≡ 909091 → are_few (named a ∷ named b ∷ []) ≡ false
one_combined_row_more a b h k = rw (h, k) refl

table_past_the_last : (others : Tables) → table_of others (116 ∷ []) ≡ None → length others ≡ 256 → create others (116 ∷ []) [] 1 ≡ Err (faults.Limit limits.Tables)
unfolding create
table_past_the_last others absent h = rw (absent, h) refl

last_table : (others : Tables) → table_of others (116 ∷ []) ≡ None → length others ≡ 255 → create others (116 ∷ []) [] 1 ≡ Ok (record { tables = others ++ (116 ∷ [], new_table []) ∷ []; next = 1; count = 0 })
unfolding create
last_table others absent h = rw (absent, h) refl

column_past_the_last : (columns : List ColumnDef) → length columns ≡ 65 → create [] (116 ∷ []) columns 1 ≡ Err (faults.Limit limits.Columns)
unfolding create
column_past_the_last columns h = rw h refl

last_column : (columns : List ColumnDef) (made : List Column) → length columns ≡ 64 → columns_made [] false columns ≡ Ok made → create [] (116 ∷ []) columns 1 ≡ Ok (record { tables = (116 ∷ [], new_table made) ∷ []; next = 1; count = 0 })
unfolding create
last_column columns made h is = rw (h, is) refl

-- columns that are named, and cells by them

not_named_is_null : arranged 0 (keyed ∷ texts ∷ linked ∷ []) (2 ∷ 0 ∷ []) (row (link 97 None ∷ int 7 ∷ [])) ≡ int 7 ∷ values.Null ∷ link 97 None ∷ []
unfolding cell
not_named_is_null = refl

not_set_stays : with_cells (1 ∷ []) (row (values.Null ∷ [])) 0 (int 1 ∷ values.Text (codes "a") ∷ []) ≡ int 1 ∷ values.Null ∷ []
unfolding cell
not_set_stays = refl

named_twice : set_places (keyed ∷ texts ∷ []) [] ((118 ∷ []) ∷ (107 ∷ []) ∷ (118 ∷ []) ∷ []) ≡ Err (faults.Ambiguous (118 ∷ []))
named_twice = refl

no_column_twice : set_places (keyed ∷ []) [] ((120 ∷ []) ∷ (120 ∷ []) ∷ []) ≡ Err (faults.NoColumn (120 ∷ []))
no_column_twice = refl

-- keys after the whole change: the least row number whose key is that of a smaller one

keys_swapped : keys_hold (rows_of ((1, row (int 2 ∷ values.Null ∷ [])) ∷ (2, row (int 1 ∷ values.Null ∷ [])) ∷ [])) ≡ Ok true
keys_swapped = refl

second_of_a_key : keys_hold (rows_of ((1, row (int 2 ∷ values.Null ∷ [])) ∷ (2, row (int 1 ∷ values.Null ∷ [])) ∷ (3, row (int 2 ∷ values.Null ∷ [])) ∷ [])) ≡ Err (faults.DupKey 3)
second_of_a_key = refl

-- DELETE

two_deleted : change (tables ((1, row (int 2 ∷ values.Null ∷ [])) ∷ (3, row (int 1 ∷ values.Null ∷ [])) ∷ [])) (statements.Delete (116 ∷ []) None) at_moment 5 ≡ Ok (record { tables = tables []; next = 5; count = 2 })
unfolding delete
two_deleted = refl

-- what whole expressions say, level by level

abbrev seven : Expr
seven = expressions.Number (pos 7)

abbrev k : Ref
k = record { table = None; column = 107 ∷ [] }

abbrev three_less_k : Expr
three_less_k = expressions.Binary ops.Sub (expressions.Number (pos 3)) (expressions.Column k)

number_type : (columns : Columns) (s : AggregateScope) (n : ℕ) → type_of columns s (expressions.Number (pos n)) ≡ Ok types.Int
number_type columns s n = ap (λ (e : Expr). type_of columns s e) (sym (expressions.rolls-Number (pos n))) ∙ ap (λ f. f s) (fold-roll-Expr (AggregateScope → Result SqlType SqlFault) (type_at columns) (level.Number (pos n)))

column_type : (columns : Columns) (s : AggregateScope) (r : Ref) → type_of columns s (expressions.Column r) ≡ type_at columns (level.Column r) s
column_type columns s r = ap (λ (e : Expr). type_of columns s e) (sym (expressions.rolls-Column r)) ∙ ap (λ f. f s) (fold-roll-Expr (AggregateScope → Result SqlType SqlFault) (type_at columns) (level.Column r))

type_of_two : (columns : Columns) (s : AggregateScope) (op : Op) (a b : Expr) → type_of columns s (expressions.Binary op a b) ≡ (type_of columns s a >>= λ t. type_of columns s b >>= λ u. binary_type op t u)
type_of_two columns s op a b = ap (λ (e : Expr). type_of columns s e) (sym (expressions.rolls-Binary op a b)) ∙ ap (λ f. f s) (fold-roll-Expr (AggregateScope → Result SqlType SqlFault) (type_at columns) (level.Binary op a b))

number_value : (columns : Columns) (context : Context) (at : Row) (n : ℕ) → meaning columns context [] (expressions.Number (pos n)) at ≡ Ok (int n)
number_value columns context at n = ap (λ (e : Expr). meaning columns context [] e at) (sym (expressions.rolls-Number (pos n))) ∙ ap (λ (denotation : Denotation). denotation.at at) (fold-roll-Expr Denotation (denotation_at columns context []) (level.Number (pos n)))

column_value : (columns : Columns) (context : Context) (at : Row) (r : Ref) → meaning columns context [] (expressions.Column r) at ≡ (place_of columns r >>= λ i. Ok (cell at i))
column_value columns context at r = ap (λ (e : Expr). meaning columns context [] e at) (sym (expressions.rolls-Column r)) ∙ ap (λ (denotation : Denotation). denotation.at at) (fold-roll-Expr Denotation (denotation_at columns context []) (level.Column r))

value_of_two : (columns : Columns) (context : Context) (at : Row) (op : Op) (a b : Expr) → meaning columns context [] (expressions.Binary op a b) at ≡ (meaning columns context [] a at >>= λ x. binary op x (meaning columns context [] b at))
value_of_two columns context at op a b = ap (λ (e : Expr). meaning columns context [] e at) (sym (expressions.rolls-Binary op a b)) ∙ ap (λ (denotation : Denotation). denotation.at at) (fold-roll-Expr Denotation (denotation_at columns context []) (level.Binary op a b))

-- INSERT and UPDATE

insert_short : change (tables []) (statements.Insert (116 ∷ []) None ((seven ∷ []) ∷ [])) at_moment 1 ≡ Err faults.Arity
unfolding insert
insert_short = refl

list_before_lengths : change (tables []) (statements.Insert (116 ∷ []) (Some ((107 ∷ []) ∷ (120 ∷ []) ∷ [])) ((seven ∷ []) ∷ [])) at_moment 1 ≡ Err (faults.NoColumn (120 ∷ []))
unfolding insert
list_before_lengths = refl

-- one table, t, with the column k alone
abbrev keys_of : ℕ → List (ℕ × Row) → Tables
keys_of next rows = (116 ∷ [], record { version = 0; columns = keyed ∷ []; next = next; rows = rows }) ∷ []

two_inserted : change (keys_of 1 []) (statements.Insert (116 ∷ []) (Some ((107 ∷ []) ∷ [])) ((seven ∷ []) ∷ (expressions.Number (pos 8) ∷ []) ∷ [])) at_moment 1 ≡ Ok (record { tables = keys_of 3 ((1, row (int 7 ∷ [])) ∷ (2, row (int 8 ∷ [])) ∷ []); next = 1; count = 2 })
unfolding insert inserted_row stored cell
two_inserted = rw (number_type [] scope.Row 7, number_type [] scope.Row 8, number_value [] at_moment no_row 7, number_value [] at_moment no_row 8) refl

one_key_twice : change (keys_of 1 []) (statements.Insert (116 ∷ []) None ((seven ∷ []) ∷ (seven ∷ []) ∷ [])) at_moment 1 ≡ Err (faults.DupKey 2)
unfolding insert inserted_row stored cell
one_key_twice = rw (number_type [] scope.Row 7, number_value [] at_moment no_row 7) refl

key_that_stood : change (keys_of 2 ((1, row (int 7 ∷ [])) ∷ [])) (statements.Insert (116 ∷ []) None ((seven ∷ []) ∷ [])) at_moment 1 ≡ Err (faults.DupKey 2)
unfolding insert inserted_row stored cell
key_that_stood = rw (number_type [] scope.Row 7, number_value [] at_moment no_row 7) refl

last_row_number : change (keys_of 9223372036854775807 []) (statements.Insert (116 ∷ []) None ((seven ∷ []) ∷ [])) at_moment 1 ≡ Ok (record { tables = keys_of 9223372036854775808 ((9223372036854775807, row (int 7 ∷ [])) ∷ []); next = 1; count = 1 })
unfolding insert inserted_row stored cell
last_row_number = rw (number_type [] scope.Row 7, number_value [] at_moment no_row 7) refl

row_number_past_the_last : change (keys_of 9223372036854775808 []) (statements.Insert (116 ∷ []) None ((seven ∷ []) ∷ [])) at_moment 1 ≡ Err (faults.Limit limits.Rows)
unfolding insert inserted_row stored cell
row_number_past_the_last = rw (number_type [] scope.Row 7, number_value [] at_moment no_row 7) refl

set_twice : change (tables []) (statements.Update (116 ∷ []) ((107 ∷ [], seven) ∷ (107 ∷ [], seven) ∷ []) None) at_moment 1 ≡ Err (faults.Ambiguous (107 ∷ []))
unfolding update
set_twice = refl

-- SET k = 3 - k
swap_keys : change (keys_of 3 ((1, row (int 1 ∷ [])) ∷ (2, row (int 2 ∷ [])) ∷ [])) (statements.Update (116 ∷ []) ((107 ∷ [], three_less_k) ∷ []) None) at_moment 1 ≡ Ok (record { tables = keys_of 3 ((1, row (int 2 ∷ [])) ∷ (2, row (int 1 ∷ [])) ∷ []); next = 1; count = 2 })
unfolding update updated_row stored cell place_of binary
swap_keys = rw (
  type_of_two ((116 ∷ [], keyed) ∷ []) scope.Row ops.Sub (expressions.Number (pos 3)) (expressions.Column k),
  number_type ((116 ∷ [], keyed) ∷ []) scope.Row 3,
  column_type ((116 ∷ [], keyed) ∷ []) scope.Row k,
  value_of_two ((116 ∷ [], keyed) ∷ []) at_moment (row (int 1 ∷ [])) ops.Sub (expressions.Number (pos 3)) (expressions.Column k),
  value_of_two ((116 ∷ [], keyed) ∷ []) at_moment (row (int 2 ∷ [])) ops.Sub (expressions.Number (pos 3)) (expressions.Column k),
  number_value ((116 ∷ [], keyed) ∷ []) at_moment (row (int 1 ∷ [])) 3,
  number_value ((116 ∷ [], keyed) ∷ []) at_moment (row (int 2 ∷ [])) 3,
  column_value ((116 ∷ [], keyed) ∷ []) at_moment (row (int 1 ∷ [])) k,
  column_value ((116 ∷ [], keyed) ∷ []) at_moment (row (int 2 ∷ [])) k,
) refl

-- sources of a query

abbrev source : ℕ → Option (List ℕ) → TableRef
source letter alias = record { table = letter ∷ []; alias = alias }

abbrev t : TableRef
t = source 116 None

missing_before_too_many : sources_of (tables []) (t ∷ t ∷ t ∷ t ∷ t ∷ t ∷ t ∷ t ∷ source 120 None ∷ []) ≡ Err (faults.NoTable (120 ∷ []))
missing_before_too_many = refl

last_source : sources_of (tables []) (t ∷ t ∷ t ∷ t ∷ t ∷ t ∷ t ∷ t ∷ []) ≡ Err (faults.Ambiguous (116 ∷ []))
last_source = refl

too_many_before_a_name_twice : sources_of (tables []) (t ∷ t ∷ t ∷ t ∷ t ∷ t ∷ t ∷ t ∷ t ∷ []) ≡ Err (faults.Limit limits.From)
too_many_before_a_name_twice = refl

source_twice : sources_of (tables []) (t ∷ source 116 (Some (117 ∷ [])) ∷ t ∷ []) ≡ Err (faults.Ambiguous (116 ∷ []))
source_twice = refl

under_an_alias : sources_of (tables []) (t ∷ source 116 (Some (117 ∷ [])) ∷ []) ≡ Ok (record { name = 116 ∷ []; table = rows_of [] } ∷ record { name = 117 ∷ []; table = rows_of [] } ∷ [])
under_an_alias = refl

-- rows that are combined, kept, grouped and ordered

first_source_outermost : product (((int 1 ∷ []) ∷ (int 2 ∷ []) ∷ []) ∷ ((int 3 ∷ []) ∷ (int 4 ∷ []) ∷ []) ∷ []) ≡ (int 1 ∷ int 3 ∷ []) ∷ (int 1 ∷ int 4 ∷ []) ∷ (int 2 ∷ int 3 ∷ []) ∷ (int 2 ∷ int 4 ∷ []) ∷ []
first_source_outermost = refl

abbrev pair : Value → ℕ → Row
pair v letter = row (v ∷ values.Text (letter ∷ []) ∷ [])

-- in order of first appearance, NULLs together
groups_of_a_column : units true (0 ∷ []) (pair values.Null 97 ∷ pair (int 2) 98 ∷ pair values.Null 99 ∷ pair (int 1) 100 ∷ pair (int 2) 101 ∷ []) ≡
    (pair values.Null 97, pair values.Null 97 ∷ pair values.Null 99 ∷ []) ∷ (pair (int 2) 98, pair (int 2) 98 ∷ pair (int 2) 101 ∷ []) ∷ (pair (int 1) 100, pair (int 1) 100 ∷ []) ∷ []
unfolding cell
groups_of_a_column = refl

no_row_is_one_group : units true [] [] ≡ (no_row, []) ∷ []
no_row_is_one_group = refl

no_row_is_no_group_of_a_column : units true (0 ∷ []) [] ≡ []
unfolding cell
no_row_is_no_group_of_a_column = refl

ascending : sorted (is_before ((0, false) ∷ [])) (pair (int 2) 97 ∷ pair values.Null 98 ∷ pair (int 1) 99 ∷ pair (int 2) 100 ∷ []) ≡ pair (int 1) 99 ∷ pair (int 2) 97 ∷ pair (int 2) 100 ∷ pair values.Null 98 ∷ []
unfolding cell
ascending = refl

descending : sorted (is_before ((0, true) ∷ [])) (pair (int 2) 97 ∷ pair values.Null 98 ∷ pair (int 1) 99 ∷ pair (int 2) 100 ∷ []) ≡ pair values.Null 98 ∷ pair (int 2) 97 ∷ pair (int 2) 100 ∷ pair (int 1) 99 ∷ []
unfolding cell
descending = refl

second_key_tells_apart : sorted (is_before ((0, false) ∷ (1, true) ∷ [])) (pair values.Null 97 ∷ pair values.Null 98 ∷ pair (int 1) 97 ∷ []) ≡ pair (int 1) 97 ∷ pair values.Null 98 ∷ pair values.Null 97 ∷ []
unfolding cell
second_key_tells_apart = refl

place_out_of_range : key_place (star 0 ((116 ∷ [], keyed) ∷ (116 ∷ [], texts) ∷ [])) (keys.Place (pos 3)) ≡ Err faults.TypeFault
place_out_of_range = refl

place_zero : key_place (star 0 ((116 ∷ [], keyed) ∷ (116 ∷ [], texts) ∷ [])) (keys.Place (pos 0)) ≡ Err faults.TypeFault
place_zero = refl

last_place : key_place (star 0 ((116 ∷ [], keyed) ∷ (116 ∷ [], texts) ∷ [])) (keys.Place (pos 2)) ≡ Ok 1
last_place = refl

name_of_two_items : key_place (star 0 ((116 ∷ [], keyed) ∷ (117 ∷ [], keyed) ∷ [])) (keys.Name (107 ∷ [])) ≡ Err (faults.Ambiguous (107 ∷ []))
name_of_two_items = refl

datalink_is_no_key : key_of (star 0 ((116 ∷ [], linked) ∷ [])) scope.Item (record { by = keys.Place (pos 1); descending = false }) ≡ Err faults.TypeFault
datalink_is_no_key = refl

datalink_is_no_grouping_column : group_place ((116 ∷ [], linked) ∷ []) (record { table = None; column = 100 ∷ [] }) ≡ Err faults.TypeFault
unfolding place_of
datalink_is_no_grouping_column = refl

-- whole queries

-- SELECT * FROM t ORDER BY 1 DESC
all_descending : select (keys_of 3 ((1, row (int 5 ∷ [])) ∷ (2, row (int 6 ∷ [])) ∷ [])) (record { items = None; from = t ∷ []; conditions = []; filter = None; group = []; order = record { by = keys.Place (pos 1); descending = true } ∷ [] }) at_moment ≡ Ok (row (int 6 ∷ []) ∷ row (int 5 ∷ []) ∷ [])
unfolding select cell
all_descending = refl

-- SELECT * FROM t GROUP BY k
star_under_group_by : select (keys_of 1 []) (record { items = None; from = t ∷ []; conditions = []; filter = None; group = k ∷ []; order = [] }) at_moment ≡ Err faults.TypeFault
unfolding select
star_under_group_by = refl

counts_is_aggregate : has_aggregate expressions.CountAll ≡ true
counts_is_aggregate = ap has_aggregate (sym expressions.rolls-CountAll) ∙ fold-roll-Expr Bool aggregate_at level.CountAll

counts_type : (columns : Columns) (s : AggregateScope) → type_of columns s expressions.CountAll ≡ type_at columns level.CountAll s
counts_type columns s = ap (λ (e : Expr). type_of columns s e) (sym expressions.rolls-CountAll) ∙ ap (λ f. f s) (fold-roll-Expr (AggregateScope → Result SqlType SqlFault) (type_at columns) level.CountAll)

counts_value : (columns : Columns) (context : Context) (group : List Row) (at : Row) → meaning columns context group expressions.CountAll at ≡ (denotation_at columns context group level.CountAll).at at
counts_value columns context group at = ap (λ (e : Expr). meaning columns context group e at) (sym expressions.rolls-CountAll) ∙ ap (λ (denotation : Denotation). denotation.at at) (fold-roll-Expr Denotation (denotation_at columns context group) level.CountAll)

-- SELECT COUNT(*) FROM t
count_of_none : select (keys_of 1 []) (record { items = Some (record { expr = expressions.CountAll; alias = None } ∷ []); from = t ∷ []; conditions = []; filter = None; group = []; order = [] }) at_moment ≡ Ok (row (int 0 ∷ []) ∷ [])
unfolding select
count_of_none = rw (counts_is_aggregate, counts_type ((116 ∷ [], keyed) ∷ []) (scope.Grouped []), counts_value ((116 ∷ [], keyed) ∷ []) at_moment [] no_row) refl
