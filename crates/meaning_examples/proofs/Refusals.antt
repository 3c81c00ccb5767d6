-- The order in which an INSERT is refused: the lengths of its tuples, what they name, and what is put into cells, of all tuples; then
-- room for its rows; and then keys.
use Rattle.std.proofs.Common.{◌≡◌, ◌^◌, ℕ, List, [], ◌∷◌, codes, None, Result, Ok, Err, refl, sym, ap, ◌∙◌, pos}
use Rattle.dl_base.specs.declared.answer.Limit.TheVariants as limits
use Rattle.dl_base.specs.declared.column.Column.{Column}
use Rattle.dl_base.specs.declared.column.ColumnRule.TheVariants as rules
use Rattle.dl_base.specs.declared.column.Kind.TheVariants as kinds
use Rattle.dl_base.specs.declared.sql_fault.SqlFault.{SqlFault}
use Rattle.dl_base.specs.declared.sql_fault.SqlFault.TheVariants as faults
use Rattle.dl_base.specs.declared.statement.Expr.{Expr, fold-roll-Expr}
use Rattle.dl_base.specs.declared.statement.Expr.TheOpen as level
use Rattle.dl_base.specs.declared.statement.Expr.TheVariants as expressions
use Rattle.dl_base.specs.declared.statement.Ref.{Ref}
use Rattle.dl_base.specs.declared.statement.Stmt.TheVariants as statements
use Rattle.dl_base.specs.declared.value.Row.{Row}
use Rattle.dl_base.specs.declared.value.Value.{Value}
use Rattle.dl_base.specs.declared.value.Value.TheVariants as values
use Rattle.meaning_sql.specs.declared.AggregateScope.{AggregateScope}
use Rattle.meaning_sql.specs.declared.AggregateScope.TheVariants as scope
use Rattle.meaning_sql.specs.declared.Context.{Context}
use Rattle.meaning_sql.specs.declared.SqlType.{SqlType}
use Rattle.meaning_sql.specs.declared.SqlType.TheVariants as types
use Rattle.meaning_sql.specs.Columns.{Columns, place_of}
use Rattle.meaning_sql.specs.Types.{type_of, type_at}
use Rattle.meaning_sql.specs.Values.{Denotation, denotation_at, meaning, cell}
use Rattle.meaning_statements.specs.Assigning.{stored}
use Rattle.meaning_statements.specs.Changing.{Changed, change, insert, inserted_row}
use Rattle.meaning_statements.specs.Sources.{no_row}
use Rattle.meaning_tables.specs.Tables.{Tables}

-- k INTEGER PRIMARY KEY
abbrev keyed : Column
keyed = record { name = codes "k"; kind = kinds.Int; rule = rules.Key }

abbrev int : ℕ → Value
int n = values.Int (pos n)

-- t with that column: it has no room, since another row would have the number 2^63
abbrev full : List (ℕ × Row) → Tables
full rows = (codes "t", record { version = 0; columns = keyed ∷ []; next = 2 ^ 63; rows = rows }) ∷ []

abbrev at_moment : Context
at_moment = record { server = codes "fs1"; key = []; now = 0; life = 60; tx = 9 }

-- INSERT INTO t VALUES, and these tuples
abbrev inserting : List (List Expr) → Tables → Result Changed SqlFault
inserting tuples tables = change tables (statements.Insert (codes "t") None tuples) at_moment 1

abbrev seven : Expr
seven = expressions.Number (pos 7)

abbrev k : Ref
k = record { table = None; column = codes "k" }

-- what whole expressions say

abbrev Typed : Type 0
Typed = AggregateScope → Result SqlType SqlFault

number_type : (columns : Columns) (s : AggregateScope) (n : ℕ) → type_of columns s (expressions.Number (pos n)) ≡ Ok types.Int
number_type columns s n = ap (λ (e : Expr). type_of columns s e) (sym (expressions.rolls-Number (pos n))) ∙ ap (λ (f : Typed). f s) (fold-roll-Expr Typed (type_at columns) (level.Number (pos n)))

null_type : (columns : Columns) (s : AggregateScope) → type_of columns s expressions.Null ≡ Ok types.Null
null_type columns s = ap (λ (e : Expr). type_of columns s e) (sym expressions.rolls-Null) ∙ ap (λ (f : Typed). f s) (fold-roll-Expr Typed (type_at columns) level.Null)

column_type : (columns : Columns) (s : AggregateScope) (r : Ref) → type_of columns s (expressions.Column r) ≡ type_at columns (level.Column r) s
column_type columns s r = ap (λ (e : Expr). type_of columns s e) (sym (expressions.rolls-Column r)) ∙ ap (λ (f : Typed). f s) (fold-roll-Expr Typed (type_at columns) (level.Column r))

number_value : (columns : Columns) (context : Context) (at : Row) (n : ℕ) → meaning columns context [] (expressions.Number (pos n)) at ≡ Ok (int n)
number_value columns context at n = ap (λ (e : Expr). meaning columns context [] e at) (sym (expressions.rolls-Number (pos n))) ∙ ap (λ (denotation : Denotation). denotation.at at) (fold-roll-Expr Denotation (denotation_at columns context []) (level.Number (pos n)))

null_value : (columns : Columns) (context : Context) (at : Row) → meaning columns context [] expressions.Null at ≡ Ok values.Null
null_value columns context at = ap (λ (e : Expr). meaning columns context [] e at) (sym expressions.rolls-Null) ∙ ap (λ (denotation : Denotation). denotation.at at) (fold-roll-Expr Denotation (denotation_at columns context []) level.Null)

-- ---- the second tuple is wrong, and there is no room

-- VALUES (7), (7, 7)
lengths_before_room : inserting ((seven ∷ []) ∷ (seven ∷ seven ∷ []) ∷ []) (full []) ≡ Err faults.Arity
unfolding insert
lengths_before_room = refl

-- VALUES (7), (k)
names_before_room : inserting ((seven ∷ []) ∷ (expressions.Column k ∷ []) ∷ []) (full []) ≡ Err (faults.NoColumn (codes "k"))
unfolding insert place_of
names_before_room = rw (number_type [] scope.Row 7, column_type [] scope.Row k) refl

-- VALUES (7), (NULL)
cells_before_room : inserting ((seven ∷ []) ∷ (expressions.Null ∷ []) ∷ []) (full []) ≡ Err (faults.NullKey (codes "k"))
unfolding insert inserted_row stored cell
cells_before_room = rw (number_type [] scope.Row 7, null_type [] scope.Row, number_value [] at_moment no_row 7, null_value [] at_moment no_row) refl

-- ---- there is no room, and the key stood before

-- VALUES (7)
room_before_keys : inserting ((seven ∷ []) ∷ []) (full ((1, record { values = int 7 ∷ [] }) ∷ [])) ≡ Err (faults.Limit limits.Rows)
unfolding insert inserted_row stored cell
room_before_keys = rw (number_type [] scope.Row 7, number_value [] at_moment no_row 7) refl
