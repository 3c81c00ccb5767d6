use Rattle.std.proofs.Common.{arith}
use Rattle.std.proofs.lemmas.Grind.{common_steps}
use Rattle.sql_table.proofs.table.TableSame.same.Goals as goal

pub returns-then-same : goal.returns-then-same
returns-then-same c = grind (arith, common_steps)
