use Rattle.std.proofs.Common.{arith}
use Rattle.std.proofs.lemmas.Grind.{common_steps}
use Rattle.fs_files.proofs.fold.make_batch.Goals as goal

pub loop-next-init : goal.loop-next-init
loop-next-init c = grind (arith, common_steps)

pub returns-clause-files : goal.returns-clause-files
returns-clause-files c = grind (arith, common_steps)

pub loop-next-preserved : goal.loop-next-preserved
loop-next-preserved c = grind (arith, common_steps)
