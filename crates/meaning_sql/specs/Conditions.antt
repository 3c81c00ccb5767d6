-- The conditions of ON and WHERE.
use Rattle.std.specs.Prelude.{Bool, true, false, List, [], ◌∷◌, Option, Some, None, Result, Ok, if◌then◌else◌, unwrap_or}
use Rattle.dl_base.specs.declared.sql_fault.SqlFault.{SqlFault}
use Rattle.dl_base.specs.declared.statement.Expr.{Expr}
use Rattle.dl_base.specs.declared.value.Row.{Row}
use Rattle.dl_base.specs.declared.value.Value.{Value}
use Rattle.meaning_sql.specs.declared.Context.{Context}
use Rattle.meaning_sql.specs.declared.SqlType.{SqlType}
use Rattle.meaning_sql.specs.declared.AggregateScope.TheVariants as scope
use Rattle.meaning_sql.specs.Columns.{Columns}
use Rattle.meaning_sql.specs.Faults.{◌>>=◌, typed}
use Rattle.meaning_sql.specs.Operators.{truth_of}
use Rattle.meaning_sql.specs.Types.{type_of, is_truth}
use Rattle.meaning_sql.specs.Values.{meaning}

-- a condition takes columns and no aggregate, and is a truth
abbrev pub condition_type : Columns → Expr → Result SqlType SqlFault
condition_type columns e = type_of columns scope.Row e >>= λ t. typed (is_truth t) t

-- unknown is not true
abbrev pub is_true : Value → Bool
is_true v = unwrap_or (truth_of v) false

-- whether all conditions are true of a row; the first that is not ends it, and the later ones are not evaluated
abbrev pub holds_all : Columns → Context → List Expr → Row → Result Bool SqlFault
holds_all columns context [] row = Ok true
holds_all columns context (e ∷ es) row = meaning columns context [] e row >>= λ v. if is_true v then holds_all columns context es row else Ok false

-- whether one condition is true
abbrev pub holds_one : Columns → Context → Expr → Row → Result Bool SqlFault
holds_one columns context e row = meaning columns context [] e row >>= λ v. Ok (is_true v)

-- whether that of WHERE is, where there is one
abbrev pub filter_met : Columns → Context → Option Expr → Row → Result Bool SqlFault
filter_met columns context None row = Ok true
filter_met columns context (Some e) row = holds_one columns context e row
