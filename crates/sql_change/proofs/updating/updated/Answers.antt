use Rattle.std.proofs.Common.{arith}
use Rattle.std.proofs.lemmas.Grind.{common_steps}
use Rattle.sql_change.specs.Parts.{updated}
use Rattle.sql_change.proofs.updating.updated.Goals as goal

pub returns-clause-made : goal.returns-clause-made
unfolding updated
returns-clause-made c = grind (arith, common_steps)

pub returns-clause-beside : goal.returns-clause-beside
unfolding updated
returns-clause-beside c = grind (arith, common_steps)

pub set_under-requires-clause-fits : goal.set_under-requires-clause-fits
unfolding updated
set_under-requires-clause-fits c = grind (arith, common_steps)
