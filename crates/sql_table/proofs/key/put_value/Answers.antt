use Rattle.std.proofs.Common.{arith}
use Rattle.std.proofs.lemmas.Grind.{common_steps}
use Rattle.sql_table.proofs.key.put_value.Goals as goal

pub returns-in_ok-push-in-Text : goal.returns-in_ok-push-in-Text
returns-in_ok-push-in-Text c = grind (arith, common_steps)
