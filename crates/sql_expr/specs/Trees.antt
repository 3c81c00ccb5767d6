-- Expressions whose columns are places. Steps of a proof, which nobody need read: what the tree of an expression says (`said`) equals
-- what the expression says, as in `denotation` of the meaning of expressions (`Values`).
use Rattle.std.specs.Prelude.{ℕ, Bool, true, List, [], length, Option, Some, None, Result, Ok, Err, map, pos}
use Rattle.dl_base.specs.declared.column.Options.{Options}
use Rattle.dl_base.specs.declared.sql_fault.SqlFault.{SqlFault}
use Rattle.dl_base.specs.declared.statement.Expr.{Expr, Expr-F, fold-Expr}
use Rattle.dl_base.specs.declared.statement.Expr.TheOpen as level
use Rattle.dl_base.specs.declared.value.Row.{Row}
use Rattle.dl_base.specs.declared.value.Value.{Value}
use Rattle.dl_base.specs.declared.value.Value.TheVariants as values
use Rattle.meaning_sql.specs.declared.Context.{Context}
use Rattle.meaning_sql.specs.Columns.{Columns, place_of, kind_at, options_of}
use Rattle.meaning_sql.specs.Conditions.{is_true}
use Rattle.meaning_sql.specs.Datalinks.{datalink}
use Rattle.meaning_sql.specs.Faults.{◌>>=◌}
use Rattle.meaning_sql.specs.Operators.{binary, gathered}
use Rattle.meaning_sql.specs.Values.{Denotation, plain, cell}
use Rattle.sql_expr.specs.declared.tree.Tree.{Tree, Tree-F, fold-Tree}
use Rattle.sql_expr.specs.declared.tree.Tree as trees
use Rattle.sql_expr.specs.declared.tree.Tree.TheOpen as layer
use Rattle.sql_operators.specs.declared.unary.Unary.TheVariants as unaries
use Rattle.sql_operators.specs.Unary.{unary_value}

-- the tree of a column whose name means this place, or is refused so
abbrev pub column_tree : Columns → Result ℕ SqlFault → Tree
column_tree columns (Ok i) = trees.Cell i (options_of (kind_at columns i))
column_tree columns (Err e) = trees.Nameless e

-- an operand that is left out
abbrev pub absent : Tree
absent = trees.Constant values.Null

-- one level of an expression, of the trees of its operands
abbrev pub tree_at : Columns → Expr-F Tree → Tree
tree_at columns (level.Number z) = trees.Constant (values.Int z)
tree_at columns (level.Literal t) = trees.Constant (values.Text t)
tree_at columns level.Null = trees.Constant values.Null
tree_at columns (level.Column r) = column_tree columns (place_of columns r)
tree_at columns (level.Not a) = trees.Unary unaries.Not a
tree_at columns (level.Minus a) = trees.Unary unaries.Minus a
tree_at columns (level.Binary op a b) = trees.Binary op a b
tree_at columns (level.IsNull a is) = trees.Unary (unaries.IsNull is) a
tree_at columns level.CountAll = trees.CountAll
tree_at columns (level.Aggregate f a) = trees.Aggregate f a
tree_at columns (level.Dlvalue1 a) = trees.Dlvalue a absent absent
tree_at columns (level.Dlvalue2 a b) = trees.Dlvalue a b absent
tree_at columns (level.Dlvalue3 a b c) = trees.Dlvalue a b c
tree_at columns (level.Access part a) = trees.Unary (unaries.Access part) a

abbrev pub tree_of : Columns → Expr → Tree
tree_of columns = fold-Expr Tree (tree_at columns)

-- what the cell at a place says, and the options that its column has
abbrev pub cell_says : ℕ → Option Options → Denotation
cell_says i under = record { under = under; at = λ row. Ok (cell row i) }

-- one level of a tree, of what its operands say
abbrev pub said_at : Context → List Row → Tree-F Denotation → Denotation
said_at context group (layer.Constant v) = plain (λ row. Ok v)
said_at context group (layer.Cell i under) = cell_says i under
said_at context group (layer.Nameless e) = plain (λ row. Err e)
said_at context group (layer.Unary op a) = plain (λ row. a.at row >>= unary_value context a.under op)
said_at context group (layer.Binary op a b) = plain (λ row. a.at row >>= λ x. binary op x (b.at row))
said_at context group layer.CountAll = plain (λ row. Ok (values.Int (pos (length group))))
said_at context group (layer.Aggregate f a) = plain (λ row. gathered f values.Null (map a.at group))
said_at context group (layer.Dlvalue a b c) = plain (λ row. a.at row >>= λ x. b.at row >>= λ y. c.at row >>= λ z. datalink context.server x y z)

-- what a tree says, aggregates being over a group of rows
abbrev pub said : Context → List Row → Tree → Denotation
said context group = fold-Tree Denotation (said_at context group)

-- its value at a row
abbrev pub said_value : Context → List Row → Tree → Row → Result Value SqlFault
said_value context group tree = (said context group tree).at

-- whether it is true of a row, where there is one
abbrev pub is_met : Context → Option Tree → Row → Result Bool SqlFault
is_met context None row = Ok true
is_met context (Some tree) row = said_value context [] tree row >>= λ v. Ok (is_true v)
