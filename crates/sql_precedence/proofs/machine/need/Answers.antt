use Rattle.std.proofs.Common.{arith}
use Rattle.sql_precedence.proofs.Stacks.{need_last}
use Rattle.sql_precedence.proofs.machine.need.Goals as goal

pub returns-in-Some : goal.returns-in-Some
returns-in-Some c = grind (arith, need_last)

pub returns-in-None : goal.returns-in-None
returns-in-None c = grind (arith, need_last)
