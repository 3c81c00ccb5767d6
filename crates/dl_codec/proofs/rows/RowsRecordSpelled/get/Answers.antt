use Rattle.std.proofs.Common.{arith}
use Rattle.std.proofs.lemmas.Grind.{common_steps}
use Rattle.dl_codec.specs.Rows.{rows_record}
use Rattle.dl_codec.proofs.rows.RowsRecordSpelled.get.Goals as goal

pub returns-in_default : goal.returns-in_default
unfolding rows_record
returns-in_default c = grind (arith, common_steps)

pub returns-in_ok-number-in-1 : goal.returns-in_ok-number-in-1
unfolding rows_record
returns-in_ok-number-in-1 c = grind (arith, common_steps)

pub returns-in_err-number-in-1 : goal.returns-in_err-number-in-1
unfolding rows_record
returns-in_err-number-in-1 c = grind (arith, common_steps)

pub returns-in_ok-tx-in-2 : goal.returns-in_ok-tx-in-2
unfolding rows_record
returns-in_ok-tx-in-2 c = grind (arith, common_steps)

pub returns-in_err-tx-in-2 : goal.returns-in_err-tx-in-2
unfolding rows_record
returns-in_err-tx-in-2 c = grind (arith, common_steps)

pub returns-in_ok-tx-in-3 : goal.returns-in_ok-tx-in-3
unfolding rows_record
returns-in_ok-tx-in-3 c = grind (arith, common_steps)

pub returns-in_err-tx-in-3 : goal.returns-in_err-tx-in-3
unfolding rows_record
returns-in_err-tx-in-3 c = grind (arith, common_steps)
