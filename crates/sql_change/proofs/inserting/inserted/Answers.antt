use Rattle.std.proofs.Common.{arith}
use Rattle.std.proofs.lemmas.Grind.{common_steps}
use Rattle.sql_change.specs.Parts.{inserted}
use Rattle.sql_change.proofs.inserting.inserted.Goals as goal

pub returns-clause-made : goal.returns-clause-made
unfolding inserted
returns-clause-made c = grind (arith, common_steps)

pub returns-clause-beside : goal.returns-clause-beside
unfolding inserted
returns-clause-beside c = grind (arith, common_steps)
