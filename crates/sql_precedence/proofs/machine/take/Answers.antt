use Rattle.std.proofs.Common.{arith}
use Rattle.std.proofs.lemmas.Grind.{common_steps}
use Rattle.sql_precedence.proofs.machine.take.Goals as goal

pub returns-in-StarRead : goal.returns-in-StarRead
returns-in-StarRead c = grind (arith, common_steps)

pub returns-in-StarDue : goal.returns-in-StarDue
returns-in-StarDue c = grind (arith, common_steps)

pub returns-in-After : goal.returns-in-After
returns-in-After c = grind (arith, common_steps)

pub returns-in-Due : goal.returns-in-Due
returns-in-Due c = grind (arith, common_steps)

pub returns-in-IsDue : goal.returns-in-IsDue
returns-in-IsDue c = grind (arith, common_steps)

pub returns-in-Named : goal.returns-in-Named
returns-in-Named c = grind (arith, common_steps)

pub returns-in-Dotted : goal.returns-in-Dotted
returns-in-Dotted c = grind (arith, common_steps)

pub returns-in-NotDue : goal.returns-in-NotDue
returns-in-NotDue c = grind (arith, common_steps)
