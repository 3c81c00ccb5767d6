use Rattle.std.proofs.Common.{arith}
use Rattle.std.proofs.lemmas.Grind.{common_steps}
use Rattle.fs_files.proofs.fold.change.Goals as goal

pub returns-in_ok-put-in-Put-clause-made : goal.returns-in_ok-put-in-Put-clause-made
returns-in_ok-put-in-Put-clause-made c = grind (arith, common_steps)

pub returns-in-Removed-clause-made : goal.returns-in-Removed-clause-made
returns-in-Removed-clause-made c = grind (arith, common_steps)

pub returns-in_ok-put-in-Put-clause-spare : goal.returns-in_ok-put-in-Put-clause-spare
returns-in_ok-put-in-Put-clause-spare c = grind (arith, common_steps)

pub returns-in-Kept-clause-made : goal.returns-in-Kept-clause-made
returns-in-Kept-clause-made c = grind (arith, common_steps)
