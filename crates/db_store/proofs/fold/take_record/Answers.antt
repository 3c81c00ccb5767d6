use Rattle.std.proofs.Common.{arith}
use Rattle.std.proofs.lemmas.Grind.{common_steps}
use Rattle.db_store.proofs.fold.take_record.Goals as goal

pub returns-in-Some-Commit : goal.returns-in-Some-Commit
returns-in-Some-Commit c = grind (arith, common_steps)

pub returns-in-Some-Opening : goal.returns-in-Some-Opening
returns-in-Some-Opening c = grind (arith, common_steps)

pub returns-in-None : goal.returns-in-None
returns-in-None c = grind (arith, common_steps)

pub returns-in-Some-Ended : goal.returns-in-Some-Ended
returns-in-Some-Ended c = grind (arith, common_steps)
