use Rattle.std.proofs.Common.{arith}
use Rattle.std.proofs.lemmas.Grind.{common_steps}
use Rattle.sql_precedence.proofs.machine.enclosed.Goals as goal

pub returns-in_ok-new-in-Dlvalue1 : goal.returns-in_ok-new-in-Dlvalue1
returns-in_ok-new-in-Dlvalue1 c = grind (arith, common_steps)

pub returns-in_ok-new-in-Access : goal.returns-in_ok-new-in-Access
returns-in_ok-new-in-Access c = grind (arith, common_steps)

pub returns-in_ok-new-in-Aggregate : goal.returns-in_ok-new-in-Aggregate
returns-in_ok-new-in-Aggregate c = grind (arith, common_steps)

pub returns-in_ok-first-in-Dlvalue2 : goal.returns-in_ok-first-in-Dlvalue2
returns-in_ok-first-in-Dlvalue2 c = grind (arith, common_steps)

pub returns-in-Group : goal.returns-in-Group
returns-in-Group c = grind (arith, common_steps)

pub returns-in-Dlvalue3 : goal.returns-in-Dlvalue3
returns-in-Dlvalue3 c = grind (arith, common_steps)
