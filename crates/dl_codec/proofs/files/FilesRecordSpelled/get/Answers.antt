use Rattle.std.proofs.Common.{arith}
use Rattle.std.proofs.lemmas.Grind.{common_steps}
use Rattle.dl_codec.specs.Files.{files_record}
use Rattle.dl_codec.proofs.files.FilesRecordSpelled.get.Goals as goal

pub returns-in_default : goal.returns-in_default
unfolding files_record
returns-in_default c = grind (arith, common_steps)

pub returns-in_ok-tx-in-1 : goal.returns-in_ok-tx-in-1
unfolding files_record
returns-in_ok-tx-in-1 c = grind (arith, common_steps)

pub returns-in_err-tx-in-1 : goal.returns-in_err-tx-in-1
unfolding files_record
returns-in_err-tx-in-1 c = grind (arith, common_steps)
