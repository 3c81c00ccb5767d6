use Rattle.std.proofs.Common.{arith}
use Rattle.std.proofs.lemmas.Grind.{common_steps}
use Rattle.sql_change.specs.Parts.{replaced}
use Rattle.sql_change.proofs.updating.replaced.Goals as goal

pub returns-in-Err-clause-made : goal.returns-in-Err-clause-made
unfolding replaced
returns-in-Err-clause-made c = grind (arith, common_steps)
