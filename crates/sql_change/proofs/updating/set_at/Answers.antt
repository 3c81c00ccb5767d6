use Rattle.std.proofs.Common.{arith}
use Rattle.sql_change.proofs.Clearing.{passing}
use Rattle.sql_change.specs.Parts.{set_at}
use Rattle.sql_change.proofs.updating.set_at.Goals as goal

pub returns-clause-made : goal.returns-clause-made
unfolding set_at
returns-clause-made c = grind (arith, passing)

pub set_rows-requires-clause-fits : goal.set_rows-requires-clause-fits
unfolding set_at
set_rows-requires-clause-fits c = grind (arith, passing)

pub set_rows-requires-clause-numbers : goal.set_rows-requires-clause-numbers
unfolding set_at
set_rows-requires-clause-numbers c = grind (arith, passing)

pub returns-clause-beside : goal.returns-clause-beside
unfolding set_at
returns-clause-beside c = grind (arith, passing)
