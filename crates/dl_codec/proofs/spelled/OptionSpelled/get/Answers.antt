use Rattle.std.proofs.Common.{arith}
use Rattle.std.proofs.lemmas.Grind.{common_steps}
use Rattle.dl_codec.proofs.spelled.OptionSpelled.get.Goals as goal

pub returns-in-0 : goal.returns-in-0
returns-in-0 g c = grind (arith, common_steps)

pub returns-in_default : goal.returns-in_default
returns-in_default g c = grind (arith, common_steps)

pub returns-in_ok-item-in-1 : goal.returns-in_ok-item-in-1
returns-in_ok-item-in-1 g c = grind (arith, common_steps)

pub returns-in_err-item-in-1 : goal.returns-in_err-item-in-1
returns-in_err-item-in-1 g c = grind (arith, common_steps)
