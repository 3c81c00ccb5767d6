use Rattle.std.proofs.Common.{subst}
use Rattle.meaning_sql.specs.Faults.{Computes, option_list}
use Rattle.meaning_statements.specs.Changing.{remaining}
use Rattle.sql_expr.specs.Binding.{Filter}
use Rattle.sql_rows.specs.Remaining.{remainder_of}
use Rattle.sql_rows.proofs.rows.delete_each.Goals as goal

pub returns-clause-rows : goal.returns-clause-rows
returns-clause-rows c =
    let a = c.args in
    subst (λ (f : Filter). Computes (λ d. (remainder_of a.table.now d.left).rows) c.delete_met-made.result (remaining f.columns a.context.now (option_list f.condition) a.table.now.rows)) c.in_ok-bound.ensures c.delete_met-made.ensures.rows
