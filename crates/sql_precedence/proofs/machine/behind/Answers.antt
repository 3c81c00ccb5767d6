use Rattle.std.proofs.Common.{arith}
use Rattle.std.proofs.lemmas.Grind.{common_steps}
use Rattle.sql_precedence.proofs.machine.behind.Goals as goal

pub returns-in-Operator : goal.returns-in-Operator
returns-in-Operator c = grind (arith, common_steps)

pub returns-in-Not : goal.returns-in-Not
returns-in-Not c = grind (arith, common_steps)

pub returns-in-Close : goal.returns-in-Close
returns-in-Close c = grind (arith, common_steps)

pub returns-in-Literal : goal.returns-in-Literal
returns-in-Literal c = grind (arith, common_steps)

pub returns-in-Word : goal.returns-in-Word
returns-in-Word c = grind (arith, common_steps)

pub returns-in-Comma : goal.returns-in-Comma
returns-in-Comma c = grind (arith, common_steps)

pub returns-in-Number : goal.returns-in-Number
returns-in-Number c = grind (arith, common_steps)

pub returns-in-Is : goal.returns-in-Is
returns-in-Is c = grind (arith, common_steps)
