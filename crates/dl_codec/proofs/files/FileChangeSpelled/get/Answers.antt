use Rattle.std.proofs.Common.{arith}
use Rattle.std.proofs.lemmas.Grind.{common_steps}
use Rattle.dl_codec.specs.Files.{file_change}
use Rattle.dl_codec.proofs.files.FileChangeSpelled.get.Goals as goal

pub returns-in_default : goal.returns-in_default
unfolding file_change
returns-in_default c = grind (arith, common_steps)

pub returns-in_ok-path-in-0 : goal.returns-in_ok-path-in-0
unfolding file_change
returns-in_ok-path-in-0 c = grind (arith, common_steps)

pub returns-in_err-path-in-0 : goal.returns-in_err-path-in-0
unfolding file_change
returns-in_err-path-in-0 c = grind (arith, common_steps)

pub returns-in_ok-row-in-1 : goal.returns-in_ok-row-in-1
unfolding file_change
returns-in_ok-row-in-1 c = grind (arith, common_steps)

pub returns-in_err-row-in-1 : goal.returns-in_err-row-in-1
unfolding file_change
returns-in_err-row-in-1 c = grind (arith, common_steps)

pub returns-in_ok-path-in-2 : goal.returns-in_ok-path-in-2
unfolding file_change
returns-in_ok-path-in-2 c = grind (arith, common_steps)

pub returns-in_err-path-in-2 : goal.returns-in_err-path-in-2
unfolding file_change
returns-in_err-path-in-2 c = grind (arith, common_steps)
