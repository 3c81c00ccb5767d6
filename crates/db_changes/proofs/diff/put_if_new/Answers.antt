use Rattle.std.proofs.Common.{arith}
use Rattle.std.proofs.lemmas.Grind.{common_steps}
use Rattle.db_changes.proofs.diff.put_if_new.Goals as goal

pub returns-clause-changes : goal.returns-clause-changes
returns-clause-changes c = grind (arith, common_steps)

pub returns-clause-handles : goal.returns-clause-handles
returns-clause-handles c = grind (arith, common_steps)
