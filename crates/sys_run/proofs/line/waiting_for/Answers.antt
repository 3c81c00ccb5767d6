use Rattle.std.proofs.Common.{arith}
use Rattle.std.proofs.lemmas.Grind.{common_steps}
use Rattle.sys_run.proofs.line.waiting_for.Goals as goal

pub returns-then-stores_copies : goal.returns-then-stores_copies
returns-then-stores_copies c = grind (arith, common_steps)
