use Rattle.std.proofs.Common.{arith}
use Rattle.std.proofs.lemmas.Grind.{common_steps}
use Rattle.db_changes.proofs.diff.put_dropped.Goals as goal

pub returns-in-None-clause-changes : goal.returns-in-None-clause-changes
returns-in-None-clause-changes c = grind (arith, common_steps)

pub returns-in-None-clause-handles : goal.returns-in-None-clause-handles
returns-in-None-clause-handles c = grind (arith, common_steps)

pub loop-i-preserved : goal.loop-i-preserved
loop-i-preserved c = grind (arith, common_steps)
