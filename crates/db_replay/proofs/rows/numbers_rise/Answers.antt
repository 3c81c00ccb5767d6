use Rattle.std.proofs.Common.{arith}
use Rattle.std.proofs.lemmas.Grind.{common_steps}
use Rattle.db_replay.proofs.rows.numbers_rise.Goals as goal

pub returns-then-not-follows : goal.returns-then-not-follows
returns-then-not-follows c = grind (arith, common_steps)

pub loop-change-preserved : goal.loop-change-preserved
loop-change-preserved c = grind (arith, common_steps)

pub returns : goal.returns
returns c = grind (arith, common_steps)
