use Rattle.std.proofs.Common.{arith}
use Rattle.std.proofs.lemmas.Grind.{common_steps}
use Rattle.sql_table.proofs.First.{no_marks_past_the_end}
use Rattle.sql_table.proofs.index.row_marks.Goals as goal

pub loop-i-preserved : goal.loop-i-preserved
loop-i-preserved c = grind (arith, common_steps, no_marks_past_the_end)

pub returns-then-values-i : goal.returns-then-values-i
returns-then-values-i c = grind (arith, common_steps, no_marks_past_the_end)

pub returns : goal.returns
returns c = grind (arith, common_steps, no_marks_past_the_end)
