use Rattle.std.proofs.Common.{arith}
use Rattle.std.proofs.lemmas.Grind.{common_steps}
use Rattle.compare_links.proofs.held.give_all.Goals as goal

pub returns : goal.returns
returns c = grind (arith, common_steps)

pub loop-link-preserved : goal.loop-link-preserved
loop-link-preserved c = grind (arith, common_steps)
