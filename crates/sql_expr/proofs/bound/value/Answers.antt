use Rattle.std.proofs.Common.{[], subst}
use Rattle.meaning_sql.specs.Faults.{Computes}
use Rattle.meaning_sql.specs.Values.{meaning}
use Rattle.sql_expr.specs.Binding.{Bound}
use Rattle.sql_expr.proofs.bound.value.Goals as goal

pub returns-in-Ok : goal.returns-in-Ok
returns-in-Ok c = subst (λ (b : Bound). Computes (λ v. v) c.value-value.result (meaning b.columns c.args.context.now [] b.expr c.args.row.now)) c.in-Ok.ensures c.value-value.ensures
