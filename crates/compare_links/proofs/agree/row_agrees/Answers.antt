use Rattle.std.proofs.Common.{arith}
use Rattle.std.proofs.lemmas.Grind.{common_steps}
use Rattle.compare_links.proofs.agree.row_agrees.Goals as goal

pub loop-i-preserved : goal.loop-i-preserved
loop-i-preserved c = grind (arith, common_steps)

pub returns-then-values-i : goal.returns-then-values-i
returns-then-values-i c = grind (arith, common_steps)

pub returns-then-not-cell_agrees : goal.returns-then-not-cell_agrees
returns-then-not-cell_agrees c = grind (arith, common_steps)

pub returns : goal.returns
returns c = grind (arith, common_steps)
