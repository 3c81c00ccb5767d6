use Rattle.std.proofs.Common.{arith}
use Rattle.std.proofs.lemmas.Grind.{common_steps}
use Rattle.sql_table.proofs.Left.{take_same}
use Rattle.sql_table.proofs.tables.TablesSame.same.Goals as goal

pub returns : goal.returns
returns c = grind (arith, common_steps, take_same)

pub loop-i-preserved : goal.loop-i-preserved
loop-i-preserved c = grind (arith, take_same)
