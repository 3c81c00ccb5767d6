-- The type of an expression, or its first breach. Operands are taken from left to right, each before its operator.
use Rattle.std.specs.Prelude.{ℕ, ◌==◌, ◌&&◌, ◌||◌, Bool, true, false, Result, Ok}
use Rattle.std.specs.List.{list_any}
use Rattle.dl_base.specs.declared.sql_fault.SqlFault.{SqlFault}
use Rattle.dl_base.specs.declared.column.Kind.{Kind}
use Rattle.dl_base.specs.declared.column.Kind.TheVariants as kinds
use Rattle.dl_base.specs.declared.statement.Ref.{Ref}
use Rattle.dl_base.specs.declared.statement.Op.{Op}
use Rattle.dl_base.specs.declared.statement.Op.TheVariants as ops
use Rattle.dl_base.specs.declared.statement.Fold.{Fold}
use Rattle.dl_base.specs.declared.statement.Fold.TheVariants as aggregates
use Rattle.dl_base.specs.declared.statement.Expr.{Expr, Expr-F, fold-Expr}
use Rattle.dl_base.specs.declared.statement.Expr.TheOpen as level
use Rattle.meaning_sql.specs.declared.SqlType.{SqlType}
use Rattle.meaning_sql.specs.declared.SqlType.TheVariants as types
use Rattle.meaning_sql.specs.declared.AggregateScope.{AggregateScope}
use Rattle.meaning_sql.specs.declared.AggregateScope.TheVariants as scope
use Rattle.meaning_sql.specs.Columns.{Columns, place_of, kind_at}
use Rattle.meaning_sql.specs.Faults.{◌>>=◌, typed}

abbrev pub kind_type : Kind → SqlType
kind_type kinds.Int = types.Int
kind_type (kinds.Text n) = types.Text
kind_type kinds.Free = types.Link
kind_type (kinds.Linked o) = types.Link

-- NULL fits each type

abbrev pub is_int : SqlType → Bool
is_int types.Int = true
is_int types.Null = true
is_int types.Text = false
is_int types.Link = false
is_int types.Truth = false

abbrev pub is_text : SqlType → Bool
is_text types.Text = true
is_text types.Null = true
is_text types.Int = false
is_text types.Link = false
is_text types.Truth = false

abbrev pub is_link : SqlType → Bool
is_link types.Link = true
is_link types.Null = true
is_link types.Int = false
is_link types.Text = false
is_link types.Truth = false

abbrev pub is_truth : SqlType → Bool
is_truth types.Truth = true
is_truth types.Null = true
is_truth types.Int = false
is_truth types.Text = false
is_truth types.Link = false

-- what a cell may be: INTEGER, VARCHAR or DATALINK
abbrev pub is_cell : SqlType → Bool
is_cell t = is_int t || is_text t || is_link t

-- two INTEGER or two VARCHAR
abbrev pub are_comparable : SqlType → SqlType → Bool
are_comparable t u = (is_int t && is_int u) || (is_text t && is_text u)

abbrev pub binary_type : Op → SqlType → SqlType → Result SqlType SqlFault
binary_type ops.Or t u = typed (is_truth t && is_truth u) types.Truth
binary_type ops.And t u = typed (is_truth t && is_truth u) types.Truth
binary_type ops.Eq t u = typed (are_comparable t u) types.Truth
binary_type ops.Ne t u = typed (are_comparable t u) types.Truth
binary_type ops.Lt t u = typed (are_comparable t u) types.Truth
binary_type ops.Le t u = typed (are_comparable t u) types.Truth
binary_type ops.Gt t u = typed (are_comparable t u) types.Truth
binary_type ops.Ge t u = typed (are_comparable t u) types.Truth
binary_type ops.Add t u = typed (is_int t && is_int u) types.Int
binary_type ops.Sub t u = typed (is_int t && is_int u) types.Int
binary_type ops.Mul t u = typed (is_int t && is_int u) types.Int
binary_type ops.Div t u = typed (is_int t && is_int u) types.Int

abbrev pub aggregate_type : Fold → SqlType → Result SqlType SqlFault
aggregate_type aggregates.Sum t = typed (is_int t) types.Int
aggregate_type aggregates.Min t = typed (is_int t || is_text t) t
aggregate_type aggregates.Max t = typed (is_int t || is_text t) t

abbrev pub takes_aggregate : AggregateScope → Bool
takes_aggregate scope.Row = false
takes_aggregate scope.Item = true
takes_aggregate (scope.Grouped places) = true

-- the column at this place may stand outside an aggregate
abbrev pub takes_column : AggregateScope → ℕ → Bool
takes_column scope.Row i = true
takes_column scope.Item i = true
takes_column (scope.Grouped places) i = list_any (λ j. j == i) places

abbrev pub column_type : Columns → Ref → AggregateScope → Result SqlType SqlFault
column_type columns r s = place_of columns r >>= λ i. typed (takes_column s i) (kind_type (kind_at columns i))

-- one level of an expression, whose operands say their types at a standing
abbrev pub type_at : Columns → Expr-F (AggregateScope → Result SqlType SqlFault) → AggregateScope → Result SqlType SqlFault
type_at columns (level.Number z) s = Ok types.Int
type_at columns (level.Literal t) s = Ok types.Text
type_at columns level.Null s = Ok types.Null
type_at columns (level.Column r) s = column_type columns r s
type_at columns (level.Not a) s = a s >>= λ t. typed (is_truth t) types.Truth
type_at columns (level.Minus a) s = a s >>= λ t. typed (is_int t) types.Int
type_at columns (level.Binary op a b) s = a s >>= λ t. b s >>= λ u. binary_type op t u
type_at columns (level.IsNull a is) s = a s >>= λ t. typed (is_cell t) types.Truth
type_at columns level.CountAll s = typed (takes_aggregate s) types.Int
type_at columns (level.Aggregate f a) s = typed (takes_aggregate s) scope.Row >>= λ r. a r >>= aggregate_type f
type_at columns (level.Dlvalue1 a) s = a s >>= λ t. typed (is_text t) types.Link
type_at columns (level.Dlvalue2 a b) s = a s >>= λ t. b s >>= λ u. typed (is_text t && is_text u) types.Link
type_at columns (level.Dlvalue3 a b c) s = a s >>= λ t. b s >>= λ u. c s >>= λ v. typed (is_text t && is_text u && is_text v) types.Link
type_at columns (level.Access part a) s = a s >>= λ t. typed (is_link t) types.Text

-- the type of an expression, or the first breach
abbrev pub type_of : Columns → AggregateScope → Expr → Result SqlType SqlFault
type_of columns s e = fold-Expr (AggregateScope → Result SqlType SqlFault) (type_at columns) e s
