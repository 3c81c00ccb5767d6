use Rattle.std.proofs.Common.{arith}
use Rattle.std.proofs.lemmas.Grind.{common_steps}
use Rattle.sql_precedence.proofs.machine.open.Goals as goal

pub returns-else-stack-lt-MOST_OPEN_PARENTHESES : goal.returns-else-stack-lt-MOST_OPEN_PARENTHESES
returns-else-stack-lt-MOST_OPEN_PARENTHESES c = grind (arith, common_steps)

pub returns-then-stack-lt-MOST_OPEN_PARENTHESES : goal.returns-then-stack-lt-MOST_OPEN_PARENTHESES
returns-then-stack-lt-MOST_OPEN_PARENTHESES c = grind (arith, common_steps)
