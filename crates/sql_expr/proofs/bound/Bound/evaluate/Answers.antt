use Rattle.std.proofs.Common.{List, subst}
use Rattle.dl_base.specs.declared.value.Row.{Row}
use Rattle.meaning_sql.specs.Faults.{Computes}
use Rattle.meaning_sql.specs.Values.{Denotation}
use Rattle.sql_expr.specs.Trees.{said_value}
use Rattle.sql_expr.proofs.Trees.{bound_means}
use Rattle.sql_expr.proofs.bound.Bound.evaluate.Goals as goal

pub returns : goal.returns
returns c =
    let b = c.self.inside in
    let here = subst (λ (rows : List Row). Computes (λ v. v) c.tree_value.result (said_value c.args.context.now rows b.tree c.args.row.now)) c.as_slice.ensures c.tree_value.ensures in
    subst (λ (d : Denotation). Computes (λ v. v) c.tree_value.result (d.at c.args.row.now))
    (bound_means c.args.context.now c.args.group.now b.tree b.columns.now b.expr.now c.args.self.now c.self.invariant c.self.view_is) here
