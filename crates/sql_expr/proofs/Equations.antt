-- What a tree says, by its kind.
use Rattle.std.proofs.Common.{◌≡◌, ℕ, List, Option, Ok, Err, sym, ap, ◌∙◌, length, pos}
use Rattle.std.specs.Prelude.{map}
use Rattle.dl_base.specs.declared.column.Options.{Options}
use Rattle.dl_base.specs.declared.sql_fault.SqlFault.{SqlFault}
use Rattle.dl_base.specs.declared.value.Row.{Row}
use Rattle.dl_base.specs.declared.value.Value.{Value}
use Rattle.dl_base.specs.declared.value.Value.TheVariants as values
use Rattle.dl_base.specs.declared.statement.Fold.{Fold}
use Rattle.dl_base.specs.declared.statement.Op.{Op}
use Rattle.meaning_sql.specs.declared.Context.{Context}
use Rattle.meaning_sql.specs.Datalinks.{datalink}
use Rattle.meaning_sql.specs.Faults.{◌>>=◌}
use Rattle.meaning_sql.specs.Operators.{binary, gathered}
use Rattle.meaning_sql.specs.Values.{Denotation, plain}
use Rattle.sql_expr.specs.declared.tree.Tree.{Tree, fold-roll-Tree}
use Rattle.sql_expr.specs.declared.tree.Tree as trees
use Rattle.sql_expr.specs.declared.tree.Tree.TheVariants as v
use Rattle.sql_expr.specs.declared.tree.Tree.TheOpen as layer
use Rattle.sql_expr.specs.Trees.{cell_says, said_at, said}
use Rattle.sql_operators.specs.Unary.{unary_value}
use Rattle.sql_operators.specs.declared.unary.Unary.{Unary}

module _ (context : Context) (group : List Row) where
  abbrev says : Tree → Denotation
  says = said context group

  pub said-Constant : (x : Value) → said context group (trees.Constant x) ≡ plain (λ row. Ok x)
  said-Constant x = ap says (sym (v.rolls-Constant x)) ∙ fold-roll-Tree Denotation (said_at context group) (layer.Constant x)

  pub said-Cell : (i : ℕ) (under : Option Options) → said context group (trees.Cell i under) ≡ cell_says i under
  said-Cell i under = ap says (sym (v.rolls-Cell i under)) ∙ fold-roll-Tree Denotation (said_at context group) (layer.Cell i under)

  pub said-Nameless : (e : SqlFault) → said context group (trees.Nameless e) ≡ plain (λ row. Err e)
  said-Nameless e = ap says (sym (v.rolls-Nameless e)) ∙ fold-roll-Tree Denotation (said_at context group) (layer.Nameless e)

  pub said-Unary : (op : Unary) (a : Tree) → said context group (trees.Unary op a) ≡ plain (λ row. (said context group a).at row >>= unary_value context (said context group a).under op)
  said-Unary op a = ap says (sym (v.rolls-Unary op a)) ∙ fold-roll-Tree Denotation (said_at context group) (layer.Unary op a)

  pub said-Binary : (op : Op) (a b : Tree) → said context group (trees.Binary op a b) ≡ plain (λ row. (said context group a).at row >>= λ x. binary op x ((said context group b).at row))
  said-Binary op a b = ap says (sym (v.rolls-Binary op a b)) ∙ fold-roll-Tree Denotation (said_at context group) (layer.Binary op a b)

  pub said-CountAll : said context group trees.CountAll ≡ plain (λ row. Ok (values.Int (pos (length group))))
  said-CountAll = ap says (sym v.rolls-CountAll) ∙ fold-roll-Tree Denotation (said_at context group) layer.CountAll

  pub said-Aggregate : (f : Fold) (a : Tree) → said context group (trees.Aggregate f a) ≡ plain (λ row. gathered f values.Null (map (said context group a).at group))
  said-Aggregate f a = ap says (sym (v.rolls-Aggregate f a)) ∙ fold-roll-Tree Denotation (said_at context group) (layer.Aggregate f a)

  pub said-Dlvalue : (a b c : Tree)
      → said context group (trees.Dlvalue a b c) ≡ plain (λ row. (said context group a).at row >>= λ x. (said context group b).at row >>= λ y. (said context group c).at row >>= λ z. datalink context.server x y z)
  said-Dlvalue a b c = ap says (sym (v.rolls-Dlvalue a b c)) ∙ fold-roll-Tree Denotation (said_at context group) (layer.Dlvalue a b c)
