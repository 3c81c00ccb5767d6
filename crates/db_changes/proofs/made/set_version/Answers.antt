use Rattle.std.proofs.Common.{arith}
use Rattle.std.proofs.lemmas.Grind.{common_steps}
use Rattle.db_changes.proofs.made.set_version.Goals as goal

pub returns-in-Kept : goal.returns-in-Kept
returns-in-Kept c = grind (arith, common_steps)

pub returns-in-New : goal.returns-in-New
returns-in-New c = grind (arith, common_steps)
