use Rattle.std.proofs.Common.{arith}
use Rattle.std.proofs.lemmas.Grind.{common_steps}
use Rattle.sql_change.proofs.places.set_names.Goals as goal

pub returns : goal.returns
returns c = grind (arith, common_steps)

pub loop-set-preserved : goal.loop-set-preserved
loop-set-preserved c = grind (arith, common_steps)
