use Rattle.std.proofs.Common.{arith}
use Rattle.std.proofs.lemmas.Grind.{common_steps}
use Rattle.sql_table.proofs.index.are_equal.Goals as goal

pub returns : goal.returns
returns g c = grind (arith, common_steps)

pub returns-then-marks-others : goal.returns-then-marks-others
returns-then-marks-others g c = grind (arith, common_steps)

pub loop-i-preserved : goal.loop-i-preserved
loop-i-preserved g c = grind (arith, common_steps)

pub returns-then-not-is_equal : goal.returns-then-not-is_equal
returns-then-not-is_equal g c = grind (arith, common_steps)
