use Rattle.std.proofs.Common.{arith}
use Rattle.std.proofs.lemmas.Grind.{common_steps}
use Rattle.sql_precedence.proofs.reader.expression.Goals as goal

pub returns-in-Refuse-2 : goal.returns-in-Refuse-2
returns-in-Refuse-2 c = grind (arith, common_steps)

pub returns-in-Go-2 : goal.returns-in-Go-2
returns-in-Go-2 c = grind (arith, common_steps)

pub returns-in-Refuse : goal.returns-in-Refuse
returns-in-Refuse c = grind (arith, common_steps)

pub returns-in-Stop : goal.returns-in-Stop
returns-in-Stop c = grind (arith, common_steps)

pub loop-at-preserved : goal.loop-at-preserved
loop-at-preserved c = grind (arith, common_steps)

pub returns-in-Stop-2 : goal.returns-in-Stop-2
returns-in-Stop-2 c = grind (arith, common_steps)

pub loop-at-init : goal.loop-at-init
loop-at-init c = grind (arith, common_steps)
