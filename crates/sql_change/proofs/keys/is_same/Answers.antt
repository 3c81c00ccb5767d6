use Rattle.std.proofs.Common.{arith}
use Rattle.std.proofs.lemmas.Grind.{common_steps}
use Rattle.sql_change.proofs.keys.is_same.Goals as goal

pub loop-i-preserved : goal.loop-i-preserved
loop-i-preserved c = grind (arith, common_steps)

pub returns-then-not-is_same_value : goal.returns-then-not-is_same_value
returns-then-not-is_same_value c = grind (arith, common_steps)

pub returns-then-key-other : goal.returns-then-key-other
returns-then-key-other c = grind (arith, common_steps)

pub returns : goal.returns
returns c = grind (arith, common_steps)
