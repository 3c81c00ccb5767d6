-- What a tree says is what the expression says that it was made of, by induction over expressions.
use Rattle.std.proofs.Common.{◌≡◌, ℕ, List, [], Option, Some, None, Result, Ok, Err, Bool, true, false, refl, ap, sym, subst, ◌∙◌}
use Rattle.std.specs.Prelude.{map, if◌then◌else◌}
use Rattle.std.specs.Option.{option_map}
use Rattle.dl_base.specs.declared.sql_fault.SqlFault.{SqlFault}
use Rattle.dl_base.specs.declared.statement.Expr.{Expr, Expr-F, map-Expr, fold-roll-Expr, ind-Expr}
use Rattle.dl_base.specs.declared.statement.Expr.TheOpen as level
use Rattle.dl_base.specs.declared.value.Row.{Row}
use Rattle.dl_base.specs.declared.value.Value.{Value}
use Rattle.dl_base.specs.declared.value.Value.TheVariants as values
use Rattle.meaning_sql.specs.declared.Context.{Context}
use Rattle.meaning_sql.specs.Columns.{Columns, place_of, kind_at, options_of, options_at}
use Rattle.meaning_sql.specs.Conditions.{holds_all, is_true}
use Rattle.meaning_sql.specs.Datalinks.{datalink}
use Rattle.meaning_sql.specs.Faults.{◌>>=◌, option_list}
use Rattle.meaning_sql.specs.Operators.{binary, gathered}
use Rattle.meaning_sql.specs.Values.{Denotation, denotation_at, denotation, meaning, plain, cell}
use Rattle.sql_expr.specs.Binding.{Bound, Filter, bound_in, filter_in}
use Rattle.sql_expr.specs.declared.tree.Tree.{Tree}
use Rattle.sql_expr.specs.declared.tree.Tree as trees
use Rattle.sql_operators.specs.declared.unary.Unary.{Unary}
use Rattle.sql_operators.specs.declared.unary.Unary.TheVariants as unaries
use Rattle.sql_expr.specs.Trees.{absent, column_tree, tree_at, tree_of, said, is_met}
use Rattle.sql_operators.specs.Unary.{unary_value}
use Rattle.sql_expr.proofs.Equations as says

module _ (columns : Columns) (context : Context) (group : List Row) where
  abbrev IsMeant : Expr → Type 0
  IsMeant e = said context group (tree_of columns e) ≡ denotation columns context group e

  -- an operand, with the proof that its tree says what it says
  abbrev Meant : Type 0
  Meant = (e : Expr) × IsMeant e

  abbrev LayerMeans : Expr-F Expr → Type 0
  LayerMeans x = said context group (tree_at columns (map-Expr Expr Tree (tree_of columns) x)) ≡ denotation_at columns context group (map-Expr Expr Denotation (denotation columns context group) x)

  abbrev column_says : Result ℕ SqlFault → Denotation
  column_says m = record { under = options_at columns m; at = λ row. m >>= λ i. Ok (cell row i) }

  column_meant : (m : Result ℕ SqlFault) → said context group (column_tree columns m) ≡ column_says m
  unfolding options_at
  column_meant (Ok i) = says.said-Cell context group i (options_of (kind_at columns i))
  column_meant (Err e) = says.said-Nameless context group e

  unary_meant : (op : Unary) (a : Tree) (p : Denotation) → said context group a ≡ p → said context group (trees.Unary op a) ≡ plain (λ row. p.at row >>= unary_value context p.under op)
  unary_meant op a p h = says.said-Unary context group op a ∙ ap (λ (d : Denotation). plain (λ row. d.at row >>= unary_value context d.under op)) h

  link_meant : (a b c : Tree) (p q r : Denotation) → said context group a ≡ p → said context group b ≡ q → said context group c ≡ r
      → said context group (trees.Dlvalue a b c) ≡ plain (λ row. p.at row >>= λ x. q.at row >>= λ y. r.at row >>= λ z. datalink context.server x y z)
  link_meant a b c p q r f g h =
      says.said-Dlvalue context group a b c
      ∙ ap (λ (d : Denotation). plain (λ row. d.at row >>= λ x. (said context group b).at row >>= λ y. (said context group c).at row >>= λ z. datalink context.server x y z)) f
      ∙ ap (λ (d : Denotation). plain (λ row. p.at row >>= λ x. d.at row >>= λ y. (said context group c).at row >>= λ z. datalink context.server x y z)) g
      ∙ ap (λ (d : Denotation). plain (λ row. p.at row >>= λ x. q.at row >>= λ y. d.at row >>= λ z. datalink context.server x y z)) h

  abbrev null : Denotation
  null = plain (λ row. Ok values.Null)

  null_meant : said context group absent ≡ null
  null_meant = says.said-Constant context group values.Null

  each : (y : Expr-F Meant) → LayerMeans (map-Expr Meant Expr (λ (e : Meant). e.0) y)
  each (level.Number z) = says.said-Constant context group (values.Int z)
  each (level.Literal t) = says.said-Constant context group (values.Text t)
  each level.Null = says.said-Constant context group values.Null
  each (level.Column r) = column_meant (place_of columns r)
  each (level.Not a) = unary_meant unaries.Not (tree_of columns a.0) (denotation columns context group a.0) a.1
  each (level.Minus a) = unary_meant unaries.Minus (tree_of columns a.0) (denotation columns context group a.0) a.1
  each (level.Binary op a b) =
      says.said-Binary context group op (tree_of columns a.0) (tree_of columns b.0)
      ∙ ap (λ (d : Denotation). plain (λ row. d.at row >>= λ x. binary op x ((said context group (tree_of columns b.0)).at row))) a.1
      ∙ ap (λ (d : Denotation). plain (λ row. (denotation columns context group a.0).at row >>= λ x. binary op x (d.at row))) b.1
  each (level.IsNull a is) = unary_meant (unaries.IsNull is) (tree_of columns a.0) (denotation columns context group a.0) a.1
  each level.CountAll = says.said-CountAll context group
  each (level.Aggregate f a) = says.said-Aggregate context group f (tree_of columns a.0) ∙ ap (λ (d : Denotation). plain (λ row. gathered f values.Null (map d.at group))) a.1
  each (level.Dlvalue1 a) = link_meant (tree_of columns a.0) absent absent (denotation columns context group a.0) null null a.1 null_meant null_meant
  each (level.Dlvalue2 a b) = link_meant (tree_of columns a.0) (tree_of columns b.0) absent (denotation columns context group a.0) (denotation columns context group b.0) null a.1 b.1 null_meant
  each (level.Dlvalue3 a b c) =
      link_meant (tree_of columns a.0) (tree_of columns b.0) (tree_of columns c.0) (denotation columns context group a.0) (denotation columns context group b.0) (denotation columns context group c.0) a.1 b.1 c.1
  each (level.Access part a) = unary_meant (unaries.Access part) (tree_of columns a.0) (denotation columns context group a.0) a.1

  pub tree_means : (e : Expr) → IsMeant e
  tree_means = ind-Expr IsMeant (λ x y is.
      let here = subst LayerMeans is (each y) in
      ap (said context group) (fold-roll-Expr Tree (tree_at columns) x) ∙ here ∙ sym (fold-roll-Expr Denotation (denotation_at columns context group) x))

-- a tree that was made of an expression in columns, seen as these
pub bound_means : (context : Context) (group : List Row) (tree : Tree) (columns : Columns) (e : Expr) (b : Bound) → tree ≡ tree_of columns e → bound_in columns e ≡ b
    → said context group tree ≡ denotation b.columns context group b.expr
bound_means context group tree columns e b is view =
    ap (said context group) is ∙ tree_means columns context group e ∙ ap (λ (x : Bound). denotation x.columns context group x.expr) view

abbrev test_of : Bool → Result Bool SqlFault
test_of b = if b then Ok true else Ok false

abbrev answer_of : Bool → Result Bool SqlFault
answer_of b = Ok b

as_test : (b : Bool) → answer_of b ≡ test_of b
as_test true = refl
as_test false = refl

as_tests : (m : Result Value SqlFault) → (m >>= λ v. answer_of (is_true v)) ≡ (m >>= λ v. test_of (is_true v))
as_tests (Err e) = refl
as_tests (Ok v) = as_test (is_true v)

met_by : (columns : Columns) (context : Context) (row : Row) (f : Option Expr) → is_met context (option_map (tree_of columns) f) row ≡ holds_all columns context (option_list f) row
met_by columns context row None = refl
met_by columns context row (Some e) = ap (λ (d : Denotation). d.at row >>= λ v. answer_of (is_true v)) (tree_means columns context [] e) ∙ as_tests (meaning columns context [] e row)

-- the same of a condition, where there is one
pub filter_means : (context : Context) (row : Row) (tree : Option Tree) (columns : Columns) (f : Option Expr) (b : Filter) → tree ≡ option_map (tree_of columns) f → filter_in columns f ≡ b
    → is_met context tree row ≡ holds_all b.columns context (option_list b.condition) row
filter_means context row tree columns f b is view =
    ap (λ (t : Option Tree). is_met context t row) is ∙ met_by columns context row f ∙ ap (λ (x : Filter). holds_all x.columns context (option_list x.condition) row) view
