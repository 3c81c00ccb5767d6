use Rattle.std.proofs.Common.{arith}
use Rattle.std.proofs.lemmas.Grind.{common_steps}
use Rattle.compare_links.proofs.commits.is_branch_of.Goals as goal

pub returns : goal.returns
returns c = grind (arith, common_steps)

pub returns-then-not-same : goal.returns-then-not-same
returns-then-not-same c = grind (arith, common_steps)

pub returns-then-is_aborted : goal.returns-then-is_aborted
returns-then-is_aborted c = grind (arith, common_steps)
