use Rattle.std.proofs.Common.{arith}
use Rattle.std.proofs.lemmas.Grind.{common_steps}
use Rattle.sql_join.proofs.aggregates.alone.Goals as goal

pub returns-else-has_aggregate : goal.returns-else-has_aggregate
returns-else-has_aggregate c = grind (arith, common_steps)

pub returns-then-has_aggregate : goal.returns-then-has_aggregate
returns-then-has_aggregate c = grind (arith, common_steps)
