use Rattle.std.proofs.Common.{arith}
use Rattle.std.proofs.lemmas.Grind.{common_steps}
use Rattle.sql_precedence.proofs.machine.part_of.Goals as goal

pub returns-then-same_bytes-5 : goal.returns-then-same_bytes-5
returns-then-same_bytes-5 c = grind (arith, common_steps)

pub returns-then-same_bytes-6 : goal.returns-then-same_bytes-6
returns-then-same_bytes-6 c = grind (arith, common_steps)

pub returns-else-same_bytes-7 : goal.returns-else-same_bytes-7
returns-else-same_bytes-7 c = grind (arith, common_steps)

pub returns-then-same_bytes-4 : goal.returns-then-same_bytes-4
returns-then-same_bytes-4 c = grind (arith, common_steps)

pub returns-then-same_bytes-2 : goal.returns-then-same_bytes-2
returns-then-same_bytes-2 c = grind (arith, common_steps)

pub returns-then-same_bytes : goal.returns-then-same_bytes
returns-then-same_bytes c = grind (arith, common_steps)

pub returns-then-same_bytes-7 : goal.returns-then-same_bytes-7
returns-then-same_bytes-7 c = grind (arith, common_steps)

pub returns-then-same_bytes-3 : goal.returns-then-same_bytes-3
returns-then-same_bytes-3 c = grind (arith, common_steps)
