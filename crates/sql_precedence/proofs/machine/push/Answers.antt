use Rattle.std.proofs.Common.{arith}
use Rattle.sql_precedence.proofs.Stacks.{stack_push}
use Rattle.sql_precedence.proofs.machine.push.Goals as goal

pub returns-in-Ok : goal.returns-in-Ok
returns-in-Ok c = grind (arith, stack_push)
