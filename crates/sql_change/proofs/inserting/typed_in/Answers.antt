use Rattle.std.proofs.Common.{arith}
use Rattle.sql_change.proofs.Clearing.{passing}
use Rattle.sql_change.specs.Parts.{typed_in}
use Rattle.sql_change.proofs.inserting.typed_in.Goals as goal

pub returns-clause-made : goal.returns-clause-made
unfolding typed_in
returns-clause-made c = grind (arith, passing)

pub filled-requires-clause-fits : goal.filled-requires-clause-fits
unfolding typed_in
filled-requires-clause-fits c = grind (arith, passing)
