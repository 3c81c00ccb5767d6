use Rattle.std.proofs.Common.{arith}
use Rattle.std.proofs.lemmas.Grind.{common_steps}
use Rattle.sql_change.specs.Parts.{filled}
use Rattle.sql_change.proofs.inserting.filled.Goals as goal

pub returns-clause-few : goal.returns-clause-few
unfolding filled
returns-clause-few c = grind (arith, common_steps)

pub returns-clause-made : goal.returns-clause-made
unfolding filled
returns-clause-made c = grind (arith, common_steps)

pub grown-requires-clause-wide : goal.grown-requires-clause-wide
unfolding filled
grown-requires-clause-wide c = grind (arith, common_steps)
