use Rattle.std.proofs.Common.{arith}
use Rattle.std.proofs.lemmas.Grind.{common_steps}
use Rattle.sql_precedence.proofs.machine.named.Goals as goal

pub returns-in-Dot : goal.returns-in-Dot
returns-in-Dot c = grind (arith, common_steps)

pub returns-in-Number : goal.returns-in-Number
returns-in-Number c = grind (arith, common_steps)

pub returns-in-Open : goal.returns-in-Open
returns-in-Open c = grind (arith, common_steps)

pub returns-in-Word : goal.returns-in-Word
returns-in-Word c = grind (arith, common_steps)

pub returns-in-Operator : goal.returns-in-Operator
returns-in-Operator c = grind (arith, common_steps)

pub returns-in-Literal : goal.returns-in-Literal
returns-in-Literal c = grind (arith, common_steps)
