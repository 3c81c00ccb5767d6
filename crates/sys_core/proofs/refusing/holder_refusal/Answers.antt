use Rattle.std.proofs.Common.{arith}
use Rattle.std.proofs.lemmas.Grind.{common_steps}
use Rattle.sys_core.proofs.refusing.holder_refusal.Goals as goal

pub returns-then-holder-tx : goal.returns-then-holder-tx
returns-then-holder-tx c = grind (arith, common_steps)

pub returns : goal.returns
returns c = grind (arith, common_steps)
