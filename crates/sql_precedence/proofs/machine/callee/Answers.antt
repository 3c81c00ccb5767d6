use Rattle.std.proofs.Common.{arith}
use Rattle.std.proofs.lemmas.Grind.{common_steps}
use Rattle.sql_precedence.proofs.machine.callee.Goals as goal

pub returns-in-None : goal.returns-in-None
returns-in-None c = grind (arith, common_steps)

pub returns-then-same_bytes-4 : goal.returns-then-same_bytes-4
returns-then-same_bytes-4 c = grind (arith, common_steps)

pub returns-then-same_bytes-5 : goal.returns-then-same_bytes-5
returns-then-same_bytes-5 c = grind (arith, common_steps)

pub returns-in-Some : goal.returns-in-Some
returns-in-Some c = grind (arith, common_steps)

pub returns-then-same_bytes-2 : goal.returns-then-same_bytes-2
returns-then-same_bytes-2 c = grind (arith, common_steps)

pub returns-then-same_bytes-3 : goal.returns-then-same_bytes-3
returns-then-same_bytes-3 c = grind (arith, common_steps)

pub returns-then-same_bytes : goal.returns-then-same_bytes
returns-then-same_bytes c = grind (arith, common_steps)
