use Rattle.std.proofs.Common.{arith}
use Rattle.std.proofs.lemmas.Grind.{common_steps}
use Rattle.sql_precedence.proofs.machine.reduce.Goals as goal

pub loop-frame-preserved : goal.loop-frame-preserved
loop-frame-preserved c = grind (arith, common_steps)

pub loop-frame-smaller : goal.loop-frame-smaller
loop-frame-smaller c = grind (arith, common_steps)

pub returns : goal.returns
returns c = grind (arith, common_steps)
