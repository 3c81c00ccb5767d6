use Rattle.std.proofs.Common.{arith}
use Rattle.std.proofs.lemmas.Grind.{common_steps}
use Rattle.compare_links.proofs.commits.is_branch.Goals as goal

pub returns-else-not-has : goal.returns-else-not-has
returns-else-not-has c = grind (arith, common_steps)

pub returns-else-has : goal.returns-else-has
returns-else-has c = grind (arith, common_steps)

pub returns-then-not-has : goal.returns-then-not-has
returns-then-not-has c = grind (arith, common_steps)

pub returns-then-has : goal.returns-then-has
returns-then-has c = grind (arith, common_steps)
