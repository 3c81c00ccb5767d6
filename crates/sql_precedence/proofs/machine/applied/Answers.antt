use Rattle.std.proofs.Common.{arith}
use Rattle.std.proofs.lemmas.Grind.{common_steps}
use Rattle.sql_precedence.proofs.machine.applied.Goals as goal

pub returns-in_ok-new-in-Sign : goal.returns-in_ok-new-in-Sign
returns-in_ok-new-in-Sign c = grind (arith, common_steps)

pub returns-in_ok-new-in-Negation : goal.returns-in_ok-new-in-Negation
returns-in_ok-new-in-Negation c = grind (arith, common_steps)

pub returns-in_ok-before-in-Infix : goal.returns-in_ok-before-in-Infix
returns-in_ok-before-in-Infix c = grind (arith, common_steps)

pub returns-in-Opened : goal.returns-in-Opened
returns-in-Opened c = grind (arith, common_steps)
