use Rattle.std.proofs.Common.{arith}
use Rattle.std.proofs.lemmas.Grind.{common_steps}
use Rattle.sql_precedence.proofs.machine.argument.Goals as goal

pub returns-in-Access : goal.returns-in-Access
returns-in-Access c = grind (arith, common_steps)

pub returns-in-Group : goal.returns-in-Group
returns-in-Group c = grind (arith, common_steps)

pub returns-in-Dlvalue3 : goal.returns-in-Dlvalue3
returns-in-Dlvalue3 c = grind (arith, common_steps)

pub returns-in-Dlvalue2 : goal.returns-in-Dlvalue2
returns-in-Dlvalue2 c = grind (arith, common_steps)

pub returns-in-Aggregate : goal.returns-in-Aggregate
returns-in-Aggregate c = grind (arith, common_steps)

pub returns-in-Dlvalue1 : goal.returns-in-Dlvalue1
returns-in-Dlvalue1 c = grind (arith, common_steps)
