use Rattle.std.proofs.Common.{arith}
use Rattle.std.proofs.lemmas.Grind.{common_steps}
use Rattle.sql_precedence.proofs.machine.end.Goals as goal

pub returns-in-After : goal.returns-in-After
returns-in-After c = grind (arith, common_steps)

pub returns-in_default : goal.returns-in_default
returns-in_default c = grind (arith, common_steps)

pub returns-in-Named : goal.returns-in-Named
returns-in-Named c = grind (arith, common_steps)
