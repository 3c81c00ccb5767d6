use Rattle.std.proofs.Common.{arith}
use Rattle.std.proofs.lemmas.Grind.{common_steps}
use Rattle.sql_change.proofs.creating.rules_fit.Goals as goal

pub returns-after-keyed : goal.returns-after-keyed
returns-after-keyed c = grind (arith, common_steps)

pub returns-else-not-def : goal.returns-else-not-def
returns-else-not-def c = grind (arith, common_steps)
