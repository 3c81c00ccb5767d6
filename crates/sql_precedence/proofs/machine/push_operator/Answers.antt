use Rattle.std.proofs.Common.{arith}
use Rattle.std.proofs.lemmas.Grind.{common_steps}
use Rattle.sql_precedence.proofs.machine.push_operator.Goals as goal

pub returns-else-stack-lt-MOST_OPERATORS : goal.returns-else-stack-lt-MOST_OPERATORS
returns-else-stack-lt-MOST_OPERATORS c = grind (arith, common_steps)

pub returns-then-stack-lt-MOST_OPERATORS : goal.returns-then-stack-lt-MOST_OPERATORS
returns-then-stack-lt-MOST_OPERATORS c = grind (arith, common_steps)
