use Rattle.std.proofs.Common.{arith}
use Rattle.std.proofs.lemmas.Grind.{common_steps}
use Rattle.sql_join.proofs.aggregates.operand.Goals as goal

pub returns-in-Dlvalue3 : goal.returns-in-Dlvalue3
returns-in-Dlvalue3 c = grind (arith, common_steps)

pub returns-in-Literal : goal.returns-in-Literal
returns-in-Literal c = grind (arith, common_steps)

pub returns-in-Not : goal.returns-in-Not
returns-in-Not c = grind (arith, common_steps)

pub returns-in-IsNull : goal.returns-in-IsNull
returns-in-IsNull c = grind (arith, common_steps)

pub returns-in-Number : goal.returns-in-Number
returns-in-Number c = grind (arith, common_steps)

pub returns-in-CountAll : goal.returns-in-CountAll
returns-in-CountAll c = grind (arith, common_steps)

pub returns-in-Binary : goal.returns-in-Binary
returns-in-Binary c = grind (arith, common_steps)

pub returns-in-Dlvalue2 : goal.returns-in-Dlvalue2
returns-in-Dlvalue2 c = grind (arith, common_steps)

pub returns-in-Null : goal.returns-in-Null
returns-in-Null c = grind (arith, common_steps)

pub returns-in-Access : goal.returns-in-Access
returns-in-Access c = grind (arith, common_steps)

pub returns-in-Column : goal.returns-in-Column
returns-in-Column c = grind (arith, common_steps)

pub returns-in-Minus : goal.returns-in-Minus
returns-in-Minus c = grind (arith, common_steps)

pub returns-in-Dlvalue1 : goal.returns-in-Dlvalue1
returns-in-Dlvalue1 c = grind (arith, common_steps)
