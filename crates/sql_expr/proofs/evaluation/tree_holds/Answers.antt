use Rattle.std.proofs.Common.{[], Ok, subst}
use Rattle.dl_base.specs.declared.value.Row.{Row}
use Rattle.meaning_sql.specs.Conditions.{is_true}
use Rattle.meaning_sql.specs.Faults.{Computes, and_then}
use Rattle.sql_expr.specs.Trees.{said_value}
use Rattle.sql_expr.proofs.Combining.{alone}
use Rattle.sql_expr.proofs.evaluation.tree_holds.Goals as goal

pub returns : goal.returns
returns c =
    let a = c.args in
    subst (λ (row : Row). Computes (λ b. b) c.holds_in.result (and_then (said_value a.context.now [] a.tree.now row) (λ v. Ok (is_true v)))) (alone c.empty-none.result c.extended-alone.result a.row.now c.empty-none.ensures c.extended-alone.ensures) c.holds_in.ensures
