use Rattle.std.proofs.Common.{arith}
use Rattle.std.proofs.lemmas.Grind.{common_steps}
use Rattle.db_replay.proofs.columns.rules_stand.Goals as goal

pub returns : goal.returns
returns c = grind (arith, common_steps)

pub loop-column-preserved : goal.loop-column-preserved
loop-column-preserved c = grind (arith, common_steps)

pub returns-then-not-kind_stands : goal.returns-then-not-kind_stands
returns-then-not-kind_stands c = grind (arith, common_steps)
