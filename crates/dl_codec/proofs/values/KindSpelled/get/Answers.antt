use Rattle.std.proofs.Common.{arith}
use Rattle.std.proofs.lemmas.Grind.{common_steps}
use Rattle.dl_codec.specs.Values.{kind}
use Rattle.dl_codec.proofs.values.KindSpelled.get.Goals as goal

pub returns-in-1 : goal.returns-in-1
unfolding kind
returns-in-1 c = grind (arith, common_steps)

pub returns-in-3 : goal.returns-in-3
unfolding kind
returns-in-3 c = grind (arith, common_steps)

pub returns-in_default : goal.returns-in_default
unfolding kind
returns-in_default c = grind (arith, common_steps)

pub returns-in_ok-most-in-2 : goal.returns-in_ok-most-in-2
unfolding kind
returns-in_ok-most-in-2 c = grind (arith, common_steps)

pub returns-in_err-most-in-2 : goal.returns-in_err-most-in-2
unfolding kind
returns-in_err-most-in-2 c = grind (arith, common_steps)

pub returns-in_ok-options-in-4 : goal.returns-in_ok-options-in-4
unfolding kind
returns-in_ok-options-in-4 c = grind (arith, common_steps)

pub returns-in_err-options-in-4 : goal.returns-in_err-options-in-4
unfolding kind
returns-in_err-options-in-4 c = grind (arith, common_steps)
