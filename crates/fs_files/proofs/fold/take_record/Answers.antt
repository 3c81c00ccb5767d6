use Rattle.std.proofs.Common.{arith}
use Rattle.std.proofs.lemmas.Grind.{common_steps}
use Rattle.fs_files.proofs.fold.take_record.Goals as goal

pub returns-in-Some-Batch : goal.returns-in-Some-Batch
returns-in-Some-Batch c = grind (arith, common_steps)

pub returns-in-None : goal.returns-in-None
returns-in-None c = grind (arith, common_steps)
