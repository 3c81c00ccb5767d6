use Rattle.std.proofs.Common.{arith}
use Rattle.std.proofs.lemmas.Grind.{common_steps}
use Rattle.sql_change.proofs.keys.sets_key.Goals as goal

pub returns : goal.returns
returns c = grind (arith, common_steps)

pub returns-then-is_key_at : goal.returns-then-is_key_at
returns-then-is_key_at c = grind (arith, common_steps)

pub loop-place-preserved : goal.loop-place-preserved
loop-place-preserved c = grind (arith, common_steps)
