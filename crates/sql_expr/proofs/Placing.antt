-- The tree of an expression, by its kind.
use Rattle.std.proofs.Common.{◌≡◌, Bool, sym, ap, ◌∙◌}
use Rattle.dl_base.specs.declared.statement.Expr.{Expr, fold-roll-Expr}
use Rattle.dl_base.specs.declared.statement.Expr as expressions
use Rattle.dl_base.specs.declared.statement.Expr.TheVariants as v
use Rattle.dl_base.specs.declared.statement.Expr.TheOpen as level
use Rattle.dl_base.specs.declared.statement.Fold.{Fold}
use Rattle.dl_base.specs.declared.statement.Op.{Op}
use Rattle.dl_base.specs.declared.statement.Part.{Part}
use Rattle.meaning_sql.specs.Columns.{Columns}
use Rattle.sql_expr.specs.declared.tree.Tree.{Tree}
use Rattle.sql_expr.specs.declared.tree.Tree as trees
use Rattle.sql_operators.specs.declared.unary.Unary.TheVariants as unaries
use Rattle.sql_expr.specs.Trees.{absent, tree_at, tree_of}

module _ (columns : Columns) where
  pub tree_of-Not : (a : Expr) → tree_of columns (expressions.Not a) ≡ trees.Unary unaries.Not (tree_of columns a)
  tree_of-Not a = ap (tree_of columns) (sym (v.rolls-Not a)) ∙ fold-roll-Expr Tree (tree_at columns) (level.Not a)

  pub tree_of-Minus : (a : Expr) → tree_of columns (expressions.Minus a) ≡ trees.Unary unaries.Minus (tree_of columns a)
  tree_of-Minus a = ap (tree_of columns) (sym (v.rolls-Minus a)) ∙ fold-roll-Expr Tree (tree_at columns) (level.Minus a)

  pub tree_of-Binary : (op : Op) (a : Expr) (b : Expr) → tree_of columns (expressions.Binary op a b) ≡ trees.Binary op (tree_of columns a) (tree_of columns b)
  tree_of-Binary op a b = ap (tree_of columns) (sym (v.rolls-Binary op a b)) ∙ fold-roll-Expr Tree (tree_at columns) (level.Binary op a b)

  pub tree_of-IsNull : (a : Expr) (is : Bool) → tree_of columns (expressions.IsNull a is) ≡ trees.Unary (unaries.IsNull is) (tree_of columns a)
  tree_of-IsNull a is = ap (tree_of columns) (sym (v.rolls-IsNull a is)) ∙ fold-roll-Expr Tree (tree_at columns) (level.IsNull a is)

  pub tree_of-Aggregate : (f : Fold) (a : Expr) → tree_of columns (expressions.Aggregate f a) ≡ trees.Aggregate f (tree_of columns a)
  tree_of-Aggregate f a = ap (tree_of columns) (sym (v.rolls-Aggregate f a)) ∙ fold-roll-Expr Tree (tree_at columns) (level.Aggregate f a)

  pub tree_of-Dlvalue1 : (a : Expr) → tree_of columns (expressions.Dlvalue1 a) ≡ trees.Dlvalue (tree_of columns a) absent absent
  tree_of-Dlvalue1 a = ap (tree_of columns) (sym (v.rolls-Dlvalue1 a)) ∙ fold-roll-Expr Tree (tree_at columns) (level.Dlvalue1 a)

  pub tree_of-Dlvalue2 : (a : Expr) (b : Expr) → tree_of columns (expressions.Dlvalue2 a b) ≡ trees.Dlvalue (tree_of columns a) (tree_of columns b) absent
  tree_of-Dlvalue2 a b = ap (tree_of columns) (sym (v.rolls-Dlvalue2 a b)) ∙ fold-roll-Expr Tree (tree_at columns) (level.Dlvalue2 a b)

  pub tree_of-Dlvalue3 : (a : Expr) (b : Expr) (c : Expr) → tree_of columns (expressions.Dlvalue3 a b c) ≡ trees.Dlvalue (tree_of columns a) (tree_of columns b) (tree_of columns c)
  tree_of-Dlvalue3 a b c = ap (tree_of columns) (sym (v.rolls-Dlvalue3 a b c)) ∙ fold-roll-Expr Tree (tree_at columns) (level.Dlvalue3 a b c)

  pub tree_of-Access : (part : Part) (a : Expr) → tree_of columns (expressions.Access part a) ≡ trees.Unary (unaries.Access part) (tree_of columns a)
  tree_of-Access part a = ap (tree_of columns) (sym (v.rolls-Access part a)) ∙ fold-roll-Expr Tree (tree_at columns) (level.Access part a)
