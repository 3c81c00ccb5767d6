-- Expressions, and the columns in which theirs have places.
use Rattle.std.specs.Prelude.{◌≡◌, refl, List, [], ◌∷◌, Option, Result}
use Rattle.std.specs.Coded.{Coded, code_by, coded×, coded_list, coded_option, coded_ℕ}
use Rattle.dl_base.specs.contracts.column.Column as column
use Rattle.dl_base.specs.contracts.statement.Expr as expression
use Rattle.dl_base.specs.declared.sql_fault.SqlFault.{SqlFault}
use Rattle.dl_base.specs.declared.statement.Expr.{Expr}
use Rattle.dl_base.specs.declared.value.Row.{Row}
use Rattle.dl_base.specs.declared.value.Value.{Value}
use Rattle.meaning_sql.specs.declared.Context.{Context}
use Rattle.meaning_sql.specs.Columns.{Columns}
use Rattle.meaning_sql.specs.Values.{meaning}

-- an expression in columns
pub record Bound : Type 0 where
  pub columns : Columns
  pub expr : Expr

abbrev pub bound_in : Columns → Expr → Bound
bound_in columns e = record { columns = columns; expr = e }

-- its value at a row; aggregates are over no rows
abbrev pub bound_value : Context → Row → Bound → Result Value SqlFault
bound_value context row b = meaning b.columns context [] b.expr row

-- the condition of WHERE in columns, where there is one
pub record Filter : Type 0 where
  pub columns : Columns
  pub condition : Option Expr

abbrev pub filter_in : Columns → Option Expr → Filter
filter_in columns f = record { columns = columns; condition = f }

-- expressions in the same columns
abbrev pub AreIn : Columns → List Bound → Type 0
AreIn columns [] = Unit {0}
AreIn columns (b ∷ bs) = (b.columns ≡ columns) × AreIn columns bs

abbrev pub columns_code : Coded Columns
columns_code = coded_list (coded× (coded_list coded_ℕ) column.the_row.coded)

abbrev pub bound_code : Coded Bound
bound_code = code_by (Columns × Expr) (coded× columns_code expression.the_row.coded) (λ b. (b.columns, b.expr)) (λ p. record { columns = p.0; expr = p.1 }) (λ _. refl)

abbrev pub filter_code : Coded Filter
filter_code =
    code_by (Columns × Option Expr) (coded× columns_code (coded_option expression.the_row.coded)) (λ f. (f.columns, f.condition)) (λ p. record { columns = p.0; condition = p.1 }) (λ _. refl)
