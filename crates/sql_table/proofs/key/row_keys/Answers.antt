use Rattle.std.proofs.Common.{arith}
use Rattle.std.proofs.lemmas.Grind.{common_steps}
use Rattle.sql_table.proofs.Asking.{no_keys_past_the_end}
use Rattle.sql_table.proofs.key.row_keys.Goals as goal

pub returns : goal.returns
returns c = grind (arith, common_steps, no_keys_past_the_end)

pub returns-then-values-i : goal.returns-then-values-i
returns-then-values-i c = grind (arith, common_steps, no_keys_past_the_end)

pub loop-i-preserved : goal.loop-i-preserved
loop-i-preserved c = grind (arith, common_steps, no_keys_past_the_end)
