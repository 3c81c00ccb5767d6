use Rattle.std.proofs.Common.{arith}
use Rattle.sql_change.proofs.Clearing.{passing}
use Rattle.sql_change.specs.Parts.{put_in}
use Rattle.sql_change.proofs.inserting.put_in.Goals as goal

pub returns-clause-made : goal.returns-clause-made
unfolding put_in
returns-clause-made c = grind (arith, passing)
