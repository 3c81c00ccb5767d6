use Rattle.std.proofs.Common.{arith}
use Rattle.std.proofs.lemmas.Grind.{common_steps}
use Rattle.sql_precedence.proofs.machine.count.Goals as goal

pub returns-in-Operator-Mul : goal.returns-in-Operator-Mul
returns-in-Operator-Mul c = grind (arith, common_steps)

pub returns-in-Close : goal.returns-in-Close
returns-in-Close c = grind (arith, common_steps)

pub returns-in_default : goal.returns-in_default
returns-in_default c = grind (arith, common_steps)
