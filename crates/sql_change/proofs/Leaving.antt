-- What a DELETE leaves of a table.
use Rattle.std.proofs.Common.{◌≡◌, ◌+◌, ◌-◌, ℕ, List, length, Option, Result, Ok, Err, IfOk, refl, sym, ap, ◌∙◌, arith}
use Rattle.dl_base.specs.declared.sql_fault.SqlFault.{SqlFault}
use Rattle.dl_base.specs.declared.statement.Expr.{Expr}
use Rattle.meaning_sql.specs.declared.Context.{Context}
use Rattle.meaning_sql.specs.declared.SqlType.{SqlType}
use Rattle.meaning_sql.specs.Columns.{Columns}
use Rattle.meaning_sql.specs.Conditions.{condition_type}
use Rattle.meaning_sql.specs.Faults.{Computes, option_list, try_map}
use Rattle.meaning_statements.specs.Changing.{remaining}
use Rattle.meaning_tables.specs.Tables.{Rows}
use Rattle.sql_rows.specs.declared.rows.Deleted.{Deleted}
use Rattle.sql_rows.specs.Remaining.{remainder_of}
use Rattle.sql_change.specs.Parts.{left_over}

-- the rows that go are those that are fewer
pub left_is : (columns : Columns) (t : Rows) (filter : Option Expr) (context : Context) (k : ℕ) (types : List SqlType) (r : Result Deleted SqlFault) → try_map (condition_type columns) (option_list filter) ≡ Ok types
    → Computes (λ d. (remainder_of t d.left).rows) r (remaining columns context (option_list filter) t.rows) → IfOk r (λ d. remainder_of t d.left ≡ record t { rows = (remainder_of t d.left).rows })
    → IfOk r (λ d. length (remainder_of t d.left).rows + length d.removed ≡ length t.rows) → Computes (λ d. (remainder_of t d.left, (k, length d.removed))) r (left_over columns t filter context k)
unfolding left_over
left_is columns t filter context k types (Ok d) fit is others told =
    rw (fit, is)
    (ap (λ (x : Rows). Ok (x, (k, length t.rows - length (remainder_of t d.left).rows))) (sym others)
    ∙ ap (λ (n : ℕ). Ok (remainder_of t d.left, (k, n))) (counts (length t.rows) (length (remainder_of t d.left).rows) (length d.removed) told))
  where
    counts : (all kept gone : ℕ) → kept + gone ≡ all → all - kept ≡ gone
    counts all kept gone sum = omega (arith, sum)
left_is columns t filter context k types (Err e) fit is others told = λ other. rw (fit, is other) refl
