use Rattle.std.proofs.Common.{arith}
use Rattle.std.proofs.lemmas.Grind.{common_steps}
use Rattle.sql_precedence.proofs.machine.operand_symbol.Goals as goal

pub returns-in-Null : goal.returns-in-Null
returns-in-Null c = grind (arith, common_steps)

pub returns-in_default : goal.returns-in_default
returns-in_default c = grind (arith, common_steps)

pub returns-in-Not : goal.returns-in-Not
returns-in-Not c = grind (arith, common_steps)

pub returns-in-Open : goal.returns-in-Open
returns-in-Open c = grind (arith, common_steps)

pub returns-in-Operator-Sub : goal.returns-in-Operator-Sub
returns-in-Operator-Sub c = grind (arith, common_steps)
