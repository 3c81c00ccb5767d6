use Rattle.std.proofs.Common.{arith}
use Rattle.sql_precedence.proofs.Stacks.{stack_push}
use Rattle.sql_precedence.proofs.machine.pop_opening.Goals as goal

pub returns-in-Some : goal.returns-in-Some
returns-in-Some c = grind (arith, stack_push)

pub returns-in-None-clause-unpassed : goal.returns-in-None-clause-unpassed
returns-in-None-clause-unpassed c = grind (arith, stack_push)

pub returns-in-None-clause-unclosed : goal.returns-in-None-clause-unclosed
returns-in-None-clause-unclosed c = grind (arith, stack_push)

pub returns-in-Some-Opened-clause-unclosed : goal.returns-in-Some-Opened-clause-unclosed
returns-in-Some-Opened-clause-unclosed c = grind (arith, stack_push)

pub returns-in-Some-Opened-clause-some : goal.returns-in-Some-Opened-clause-some
returns-in-Some-Opened-clause-some c = grind (arith, stack_push)

pub returns-in-Some-Opened-clause-unpassed : goal.returns-in-Some-Opened-clause-unpassed
returns-in-Some-Opened-clause-unpassed c = grind (arith, stack_push)
