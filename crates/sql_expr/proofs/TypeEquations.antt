-- The type of an expression, by its kind.
use Rattle.std.proofs.Common.{◌≡◌, ◌&&◌, Bool, true, false, Result, Ok, Err, refl, ap, sym, ◌∙◌}
use Rattle.dl_base.specs.declared.sql_fault.SqlFault.{SqlFault}
use Rattle.dl_base.specs.declared.statement.Expr.{Expr, fold-roll-Expr}
use Rattle.dl_base.specs.declared.statement.Expr as expressions
use Rattle.dl_base.specs.declared.statement.Expr.TheOpen as level
use Rattle.dl_base.specs.declared.statement.Expr.TheVariants as v
use Rattle.dl_base.specs.declared.statement.Fold.{Fold}
use Rattle.dl_base.specs.declared.statement.Op.{Op}
use Rattle.dl_base.specs.declared.statement.Part.{Part}
use Rattle.meaning_sql.specs.declared.AggregateScope.{AggregateScope}
use Rattle.meaning_sql.specs.declared.AggregateScope.TheVariants as scope
use Rattle.meaning_sql.specs.declared.SqlType.{SqlType}
use Rattle.meaning_sql.specs.declared.SqlType.TheVariants as types
use Rattle.meaning_sql.specs.Columns.{Columns}
use Rattle.meaning_sql.specs.Faults.{◌>>=◌, typed}
use Rattle.meaning_sql.specs.Types.{aggregate_type, binary_type, is_cell, is_int, is_link, is_text, is_truth, takes_aggregate, type_at, type_of}

-- a link type and a comment that are left out are texts
no_comment : (a b : Bool) → (a && b && true) ≡ (a && b)
no_comment true true = refl
no_comment true false = refl
no_comment false true = refl
no_comment false false = refl

without_comment : (m n : Result SqlType SqlFault)
    → (m >>= λ t. n >>= λ u. typed (is_text t && is_text u && true) types.Link) ≡ (m >>= λ t. n >>= λ u. typed (is_text t && is_text u) types.Link)
without_comment (Err e) n = refl
without_comment (Ok t) (Err e) = refl
without_comment (Ok t) (Ok u) = ap (λ (b : Bool). typed b types.Link) (no_comment (is_text t) (is_text u))

-- an aggregate's operand is one of rows
of_rows : (stands : Bool) (kinds : AggregateScope → Result SqlType SqlFault) (f : SqlType → Result SqlType SqlFault)
    → (typed stands scope.Row >>= λ r. kinds scope.Row >>= f) ≡ (typed stands scope.Row >>= λ r. kinds r >>= f)
of_rows true kinds f = refl
of_rows false kinds f = refl

module _ (columns : Columns) (s : AggregateScope) where
  abbrev type : Expr → Result SqlType SqlFault
  type = type_of columns s

  pub type_of-Not : (a : Expr) → type (expressions.Not a) ≡ (type a >>= λ t. typed (is_truth t) types.Truth)
  type_of-Not a = ap type (sym (v.rolls-Not a)) ∙ ap (λ (kinds : AggregateScope → Result SqlType SqlFault). kinds s) (fold-roll-Expr (AggregateScope → Result SqlType SqlFault) (type_at columns) (level.Not a))

  pub type_of-Minus : (a : Expr) → type (expressions.Minus a) ≡ (type a >>= λ t. typed (is_int t) types.Int)
  type_of-Minus a = ap type (sym (v.rolls-Minus a)) ∙ ap (λ (kinds : AggregateScope → Result SqlType SqlFault). kinds s) (fold-roll-Expr (AggregateScope → Result SqlType SqlFault) (type_at columns) (level.Minus a))

  pub type_of-Binary : (op : Op) (a : Expr) (b : Expr) → type (expressions.Binary op a b) ≡ (type a >>= λ t. type b >>= λ u. binary_type op t u)
  type_of-Binary op a b = ap type (sym (v.rolls-Binary op a b)) ∙ ap (λ (kinds : AggregateScope → Result SqlType SqlFault). kinds s) (fold-roll-Expr (AggregateScope → Result SqlType SqlFault) (type_at columns) (level.Binary op a b))

  pub type_of-IsNull : (a : Expr) (is : Bool) → type (expressions.IsNull a is) ≡ (type a >>= λ t. typed (is_cell t) types.Truth)
  type_of-IsNull a is = ap type (sym (v.rolls-IsNull a is)) ∙ ap (λ (kinds : AggregateScope → Result SqlType SqlFault). kinds s) (fold-roll-Expr (AggregateScope → Result SqlType SqlFault) (type_at columns) (level.IsNull a is))

  pub type_of-Aggregate : (f : Fold) (a : Expr) → type (expressions.Aggregate f a) ≡ (typed (takes_aggregate s) scope.Row >>= λ r. type_of columns scope.Row a >>= aggregate_type f)
  type_of-Aggregate f a = ap type (sym (v.rolls-Aggregate f a)) ∙ ap (λ (kinds : AggregateScope → Result SqlType SqlFault). kinds s) (fold-roll-Expr (AggregateScope → Result SqlType SqlFault) (type_at columns) (level.Aggregate f a)) ∙ sym (of_rows (takes_aggregate s) (λ r. type_of columns r a) (aggregate_type f))

  pub type_of-Dlvalue1 : (a : Expr) → type (expressions.Dlvalue1 a) ≡ (type a >>= λ t. typed (is_text t) types.Link)
  type_of-Dlvalue1 a = ap type (sym (v.rolls-Dlvalue1 a)) ∙ ap (λ (kinds : AggregateScope → Result SqlType SqlFault). kinds s) (fold-roll-Expr (AggregateScope → Result SqlType SqlFault) (type_at columns) (level.Dlvalue1 a))

  pub type_of-Dlvalue2 : (a : Expr) (b : Expr) → type (expressions.Dlvalue2 a b) ≡ (type a >>= λ t. type b >>= λ u. typed (is_text t && is_text u && true) types.Link)
  type_of-Dlvalue2 a b = ap type (sym (v.rolls-Dlvalue2 a b)) ∙ ap (λ (kinds : AggregateScope → Result SqlType SqlFault). kinds s) (fold-roll-Expr (AggregateScope → Result SqlType SqlFault) (type_at columns) (level.Dlvalue2 a b)) ∙ sym (without_comment (type a) (type b))

  pub type_of-Dlvalue3 : (a : Expr) (b : Expr) (c : Expr) → type (expressions.Dlvalue3 a b c) ≡ (type a >>= λ t. type b >>= λ u. type c >>= λ w. typed (is_text t && is_text u && is_text w) types.Link)
  type_of-Dlvalue3 a b c = ap type (sym (v.rolls-Dlvalue3 a b c)) ∙ ap (λ (kinds : AggregateScope → Result SqlType SqlFault). kinds s) (fold-roll-Expr (AggregateScope → Result SqlType SqlFault) (type_at columns) (level.Dlvalue3 a b c))

  pub type_of-Access : (part : Part) (a : Expr) → type (expressions.Access part a) ≡ (type a >>= λ t. typed (is_link t) types.Text)
  type_of-Access part a = ap type (sym (v.rolls-Access part a)) ∙ ap (λ (kinds : AggregateScope → Result SqlType SqlFault). kinds s) (fold-roll-Expr (AggregateScope → Result SqlType SqlFault) (type_at columns) (level.Access part a))
