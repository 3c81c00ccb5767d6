use Rattle.std.proofs.Common.{arith}
use Rattle.std.proofs.lemmas.Grind.{common_steps}
use Rattle.sql_table.proofs.columns.Columns.share.Goals as goal

pub returns-in_ok-copy-in-Own : goal.returns-in_ok-copy-in-Own
returns-in_ok-copy-in-Own c = grind (arith, common_steps)
