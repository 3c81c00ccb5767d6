use Rattle.std.proofs.Common.{arith}
use Rattle.std.proofs.lemmas.Grind.{common_steps}
use Rattle.dl_codec.specs.Values.{value}
use Rattle.dl_codec.proofs.values.ValueSpelled.get.Goals as goal

pub returns-in-0 : goal.returns-in-0
unfolding value
returns-in-0 c = grind (arith, common_steps)

pub returns-in_default : goal.returns-in_default
unfolding value
returns-in_default c = grind (arith, common_steps)

pub returns-in_ok-number-in-1 : goal.returns-in_ok-number-in-1
unfolding value
returns-in_ok-number-in-1 c = grind (arith, common_steps)

pub returns-in_err-number-in-1 : goal.returns-in_err-number-in-1
unfolding value
returns-in_err-number-in-1 c = grind (arith, common_steps)

pub returns-in_ok-text-in-2 : goal.returns-in_ok-text-in-2
unfolding value
returns-in_ok-text-in-2 c = grind (arith, common_steps)

pub returns-in_err-text-in-2 : goal.returns-in_err-text-in-2
unfolding value
returns-in_err-text-in-2 c = grind (arith, common_steps)

pub returns-in_ok-datalink-in-3 : goal.returns-in_ok-datalink-in-3
unfolding value
returns-in_ok-datalink-in-3 c = grind (arith, common_steps)

pub returns-in_err-datalink-in-3 : goal.returns-in_err-datalink-in-3
unfolding value
returns-in_err-datalink-in-3 c = grind (arith, common_steps)
