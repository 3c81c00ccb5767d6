use Rattle.std.proofs.Common.{arith}
use Rattle.std.proofs.lemmas.Grind.{common_steps}
use Rattle.db_replay.proofs.cells.is_among.Goals as goal

pub loop-other-preserved : goal.loop-other-preserved
loop-other-preserved c = grind (arith, common_steps)

pub returns-then-link-other-2 : goal.returns-then-link-other-2
returns-then-link-other-2 c = grind (arith, common_steps)

pub returns : goal.returns
returns c = grind (arith, common_steps)
