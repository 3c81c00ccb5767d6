use Rattle.std.proofs.Common.{arith}
use Rattle.std.proofs.lemmas.Grind.{common_steps}
use Rattle.db_replay.proofs.rows.change_each.Goals as goal

pub change_row-requires-clause-below : goal.change_row-requires-clause-below
change_row-requires-clause-below c = grind (arith, common_steps)

pub loop-change-preserved : goal.loop-change-preserved
loop-change-preserved c = grind (arith, common_steps)
