use Rattle.std.proofs.Common.{arith}
use Rattle.std.proofs.lemmas.Grind.{common_steps}
use Rattle.sql_table.proofs.tables.same_at.Goals as goal

pub returns-else-same : goal.returns-else-same
returns-else-same c = grind (arith, common_steps)
