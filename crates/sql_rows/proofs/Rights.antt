-- The right sides of an UPDATE, with the places of their columns.
use Rattle.std.proofs.Common.{◌≡◌, ℕ, List, [], ◌∷◌, Result, Ok, Err, refl, ap, ◌∙◌}
use Rattle.std.specs.Prelude.{map}
use Rattle.dl_base.specs.declared.column.Column.{Column}
use Rattle.dl_base.specs.declared.sql_fault.SqlFault.{SqlFault}
use Rattle.dl_base.specs.declared.statement.Expr.{Expr}
use Rattle.dl_base.specs.declared.value.Row.{Row}
use Rattle.dl_base.specs.declared.value.Value.{Value}
use Rattle.meaning_sql.specs.declared.Context.{Context}
use Rattle.meaning_sql.specs.Columns.{Columns}
use Rattle.meaning_sql.specs.Faults.{◌>>=◌, try_map}
use Rattle.meaning_sql.specs.Values.{meaning}
use Rattle.meaning_statements.specs.Assigning.{stored_row}
use Rattle.meaning_statements.specs.Changing.{updated_row, with_cells}
use Rattle.sql_expr.specs.Binding.{AreIn, Bound, bound_in, bound_value}

-- their values are those of the expressions in these columns
pub values_in : (columns : Columns) (context : Context) (row : Row) (bs : List Bound) → AreIn columns bs
    → try_map (bound_value context row) bs ≡ try_map (λ e. meaning columns context [] e row) (map (λ b. b.expr) bs)
values_in columns context row [] are = refl
values_in columns context row (b ∷ bs) are =
    ap (λ (cs : Columns). meaning cs context [] b.expr row >>= λ v. try_map (bound_value context row) bs >>= λ vs. Ok (v ∷ vs)) are.0
    ∙ ap (λ (m : Result (List Value) SqlFault). meaning columns context [] b.expr row >>= λ v. m >>= λ vs. Ok (v ∷ vs)) (values_in columns context row bs are.1)

abbrev pub all_bound : Columns → List (List ℕ × Expr) → List Bound
all_bound all sets = map (λ s. bound_in all s.1) sets

pub all_in : (all : Columns) (sets : List (List ℕ × Expr)) → AreIn all (all_bound all sets)
all_in all [] = tt
all_in all (s ∷ sets) = (refl, all_in all sets)

pub exprs_bound : (all : Columns) (sets : List (List ℕ × Expr)) → map (λ b. b.expr) (all_bound all sets) ≡ map (λ s. s.1) sets
exprs_bound all [] = refl
exprs_bound all (s ∷ sets) = ap (λ (es : List Expr). s.1 ∷ es) (exprs_bound all sets)

-- a row of which all right sides have values, and one of which they are refused
module _ (all : Columns) (context : Context) (columns : List Column) (places : List ℕ) (rights : List Expr) (k : ℕ) (row : Row) where
  abbrev from_values : Result (List Value) SqlFault → Result (List Value × ℕ) SqlFault
  from_values m = m >>= λ vs. stored_row context.tx k 0 columns row (record { values = with_cells places (record { values = vs }) 0 row.values })

  pub updated_from : (vs : List Value) → try_map (λ e. meaning all context [] e row) rights ≡ Ok vs
      → updated_row all context columns places rights k row ≡ stored_row context.tx k 0 columns row (record { values = with_cells places (record { values = vs }) 0 row.values })
  unfolding updated_row
  updated_from vs is = ap from_values is

  pub updated_stops : (e : SqlFault) → try_map (λ e. meaning all context [] e row) rights ≡ Err e → updated_row all context columns places rights k row ≡ Err e
  unfolding updated_row
  updated_stops e is = ap from_values is
