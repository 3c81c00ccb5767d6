use Rattle.std.proofs.Common.{arith}
use Rattle.dl_pages.proofs.Same.{take_same}
use Rattle.std.proofs.lemmas.Grind.{common_steps}
use Rattle.dl_pages.proofs.pages.PagesSame.same.Goals as goal

pub returns-then-len : goal.returns-then-len
returns-then-len g c = grind (arith, take_same)

pub returns-then-not-same_at : goal.returns-then-not-same_at
returns-then-not-same_at g c = grind (arith, take_same)

pub loop-i-preserved : goal.loop-i-preserved
loop-i-preserved g c = grind (arith, take_same)

pub returns : goal.returns
returns g c = grind (arith, common_steps, take_same)
