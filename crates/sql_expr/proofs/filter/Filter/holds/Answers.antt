use Rattle.std.proofs.Common.{Bool, Result, subst}
use Rattle.dl_base.specs.declared.sql_fault.SqlFault.{SqlFault}
use Rattle.meaning_sql.specs.Faults.{Computes}
use Rattle.sql_expr.proofs.Trees.{filter_means}
use Rattle.sql_expr.proofs.filter.Filter.holds.Goals as goal

pub returns : goal.returns
returns c =
    let f = c.self.inside in
    subst (λ (m : Result Bool SqlFault). Computes (λ b. b) c.is_met.result m)
    (filter_means c.args.context.now c.args.row.now f.tree f.columns.now f.condition.now c.args.self.now c.self.invariant c.self.view_is) c.is_met.ensures
