use Rattle.std.proofs.Common.{arith}
use Rattle.std.proofs.lemmas.Grind.{common_steps}
use Rattle.sql_precedence.proofs.machine.leave.Goals as goal

pub returns-then-stack-eq0 : goal.returns-then-stack-eq0
returns-then-stack-eq0 c = grind (arith, common_steps)

pub returns-else-stack-eq0 : goal.returns-else-stack-eq0
returns-else-stack-eq0 c = grind (arith, common_steps)
