use Rattle.std.proofs.Common.{subst}
use Rattle.meaning_sql.specs.Conditions.{holds_one}
use Rattle.meaning_sql.specs.Faults.{Computes}
use Rattle.sql_expr.specs.Binding.{Bound}
use Rattle.sql_expr.proofs.condition.holds.Goals as goal

pub returns-in-Ok : goal.returns-in-Ok
returns-in-Ok c = subst (λ (b : Bound). Computes (λ b. b) c.holds-holds.result (holds_one b.columns c.args.context.now b.expr c.args.row.now)) c.in-Ok.ensures c.holds-holds.ensures
