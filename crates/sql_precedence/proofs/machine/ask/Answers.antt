use Rattle.std.proofs.Common.{arith}
use Rattle.std.proofs.lemmas.Grind.{common_steps}
use Rattle.sql_precedence.proofs.machine.ask.Goals as goal

pub returns-then-stack-lt-MOST_OPERATORS : goal.returns-then-stack-lt-MOST_OPERATORS
returns-then-stack-lt-MOST_OPERATORS c = grind (arith, common_steps)

pub returns-else-bound-ge4 : goal.returns-else-bound-ge4
returns-else-bound-ge4 c = grind (arith, common_steps)
