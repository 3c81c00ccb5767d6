use Rattle.std.proofs.Common.{subst}
use Rattle.dl_base.specs.declared.value.Row.{Row}
use Rattle.meaning_sql.specs.Faults.{Computes}
use Rattle.sql_expr.specs.Trees.{said_value}
use Rattle.sql_expr.proofs.Combining.{alone}
use Rattle.sql_expr.proofs.evaluation.tree_value.Goals as goal

pub returns : goal.returns
returns c =
    let a = c.args in
    subst (λ (row : Row). Computes (λ v. v) c.value_in.result (said_value a.context.now a.group.now a.tree.now row)) (alone c.empty-none.result c.extended-alone.result a.row.now c.empty-none.ensures c.extended-alone.ensures) c.value_in.ensures
