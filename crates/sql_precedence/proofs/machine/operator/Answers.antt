use Rattle.std.proofs.Common.{arith}
use Rattle.std.proofs.lemmas.Grind.{common_steps}
use Rattle.sql_precedence.proofs.machine.operator.Goals as goal

pub returns-else-left-bound : goal.returns-else-left-bound
returns-else-left-bound c = grind (arith, common_steps)

pub returns-then-need-level : goal.returns-then-need-level
returns-then-need-level c = grind (arith, common_steps)
