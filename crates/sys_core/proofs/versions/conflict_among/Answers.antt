use Rattle.std.proofs.Common.{arith}
use Rattle.std.proofs.lemmas.Grind.{common_steps}
use Rattle.sys_core.proofs.versions.conflict_among.Goals as goal

pub loop-name-preserved : goal.loop-name-preserved
loop-name-preserved c = grind (arith, common_steps)

pub returns-then-was-now : goal.returns-then-was-now
returns-then-was-now c = grind (arith, common_steps)

pub returns : goal.returns
returns c = grind (arith, common_steps)
