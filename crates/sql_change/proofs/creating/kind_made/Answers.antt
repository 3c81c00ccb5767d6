use Rattle.std.proofs.Common.{arith}
use Rattle.std.proofs.lemmas.Grind.{common_steps}
use Rattle.sql_change.proofs.creating.kind_made.Goals as goal

pub returns-in-Chosen : goal.returns-in-Chosen
returns-in-Chosen c = grind (arith, common_steps)

pub returns-in-Varchar : goal.returns-in-Varchar
returns-in-Varchar c = grind (arith, common_steps)
