use Rattle.std.proofs.Common.{arith}
use Rattle.std.proofs.lemmas.Grind.{common_steps}
use Rattle.sql_precedence.proofs.machine.call.Goals as goal

pub returns-in-Some-Count : goal.returns-in-Some-Count
returns-in-Some-Count c = grind (arith, common_steps)

pub returns-in-None : goal.returns-in-None
returns-in-None c = grind (arith, common_steps)

pub returns-in-Some-Opens : goal.returns-in-Some-Opens
returns-in-Some-Opens c = grind (arith, common_steps)
