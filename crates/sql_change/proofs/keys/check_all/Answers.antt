use Rattle.std.proofs.Common.{arith}
use Rattle.std.proofs.lemmas.Grind.{common_steps}
use Rattle.sql_change.proofs.Reversed.{any_reversed, reversed_push}
use Rattle.sql_change.proofs.keys.check_all.Goals as goal

pub returns : goal.returns
returns c = grind (arith, common_steps, any_reversed, reversed_push)

pub returns-then-is_among : goal.returns-then-is_among
returns-then-is_among c = grind (arith, any_reversed, reversed_push)

pub loop-i-preserved : goal.loop-i-preserved
loop-i-preserved c = grind (arith, any_reversed, reversed_push)
