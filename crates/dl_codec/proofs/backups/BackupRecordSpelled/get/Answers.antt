use Rattle.std.proofs.Common.{arith}
use Rattle.std.proofs.lemmas.Grind.{common_steps}
use Rattle.dl_codec.specs.Backups.{backup_record}
use Rattle.dl_codec.proofs.backups.BackupRecordSpelled.get.Goals as goal

pub returns-in_default : goal.returns-in_default
unfolding backup_record
returns-in_default c = grind (arith, common_steps)

pub returns-in_ok-number-in-1 : goal.returns-in_ok-number-in-1
unfolding backup_record
returns-in_ok-number-in-1 c = grind (arith, common_steps)

pub returns-in_err-number-in-1 : goal.returns-in_err-number-in-1
unfolding backup_record
returns-in_err-number-in-1 c = grind (arith, common_steps)
