use Rattle.std.proofs.Common.{arith}
use Rattle.std.proofs.lemmas.Grind.{common_steps}
use Rattle.db_changes.proofs.touched.TouchedRows.with_numbers.Goals as goal

pub returns-in_ok-share-in-Some-clause-added : goal.returns-in_ok-share-in-Some-clause-added
returns-in_ok-share-in-Some-clause-added c = grind (arith, common_steps)
