use Rattle.std.proofs.Common.{arith}
use Rattle.std.proofs.lemmas.Grind.{common_steps}
use Rattle.db_replay.proofs.cells.links_are_new.Goals as goal

pub returns : goal.returns
returns c = grind (arith, common_steps)

pub loop-i-preserved : goal.loop-i-preserved
loop-i-preserved c = grind (arith, common_steps)

pub returns-then-has_link : goal.returns-then-has_link
returns-then-has_link c = grind (arith, common_steps)
