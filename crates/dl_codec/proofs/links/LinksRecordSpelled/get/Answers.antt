use Rattle.std.proofs.Common.{arith}
use Rattle.std.proofs.lemmas.Grind.{common_steps}
use Rattle.dl_codec.specs.Links.{links_record}
use Rattle.dl_codec.proofs.links.LinksRecordSpelled.get.Goals as goal

pub returns-in_default : goal.returns-in_default
unfolding links_record
returns-in_default c = grind (arith, common_steps)

pub returns-in_ok-number-in-1 : goal.returns-in_ok-number-in-1
unfolding links_record
returns-in_ok-number-in-1 c = grind (arith, common_steps)

pub returns-in_err-number-in-1 : goal.returns-in_err-number-in-1
unfolding links_record
returns-in_err-number-in-1 c = grind (arith, common_steps)

pub returns-in_ok-tx-in-2 : goal.returns-in_ok-tx-in-2
unfolding links_record
returns-in_ok-tx-in-2 c = grind (arith, common_steps)

pub returns-in_err-tx-in-2 : goal.returns-in_err-tx-in-2
unfolding links_record
returns-in_err-tx-in-2 c = grind (arith, common_steps)

pub returns-in_ok-tx-in-3 : goal.returns-in_ok-tx-in-3
unfolding links_record
returns-in_ok-tx-in-3 c = grind (arith, common_steps)

pub returns-in_err-tx-in-3 : goal.returns-in_err-tx-in-3
unfolding links_record
returns-in_err-tx-in-3 c = grind (arith, common_steps)

pub returns-in_ok-tx-in-4 : goal.returns-in_ok-tx-in-4
unfolding links_record
returns-in_ok-tx-in-4 c = grind (arith, common_steps)

pub returns-in_err-tx-in-4 : goal.returns-in_err-tx-in-4
unfolding links_record
returns-in_err-tx-in-4 c = grind (arith, common_steps)

pub returns-in_ok-tx-in-5 : goal.returns-in_ok-tx-in-5
unfolding links_record
returns-in_ok-tx-in-5 c = grind (arith, common_steps)

pub returns-in_err-tx-in-5 : goal.returns-in_err-tx-in-5
unfolding links_record
returns-in_err-tx-in-5 c = grind (arith, common_steps)
