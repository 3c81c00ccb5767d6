use Rattle.std.proofs.Common.{arith}
use Rattle.std.proofs.lemmas.Grind.{common_steps}
use Rattle.sql_table.proofs.RowLinks.{none_past_the_end}
use Rattle.sql_table.proofs.link_rows.put_row_links.Goals as goal

pub returns : goal.returns
returns c = grind (arith, common_steps, none_past_the_end)

pub returns-then-values-i : goal.returns-then-values-i
returns-then-values-i c = grind (arith, common_steps, none_past_the_end)

pub loop-i-preserved : goal.loop-i-preserved
loop-i-preserved c = grind (arith, common_steps, none_past_the_end)
