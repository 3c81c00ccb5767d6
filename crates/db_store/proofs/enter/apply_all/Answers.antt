use Rattle.std.proofs.Common.{arith}
use Rattle.std.proofs.lemmas.Grind.{common_steps}
use Rattle.db_store.proofs.enter.apply_all.Goals as goal

pub apply_one-requires-clause-room : goal.apply_one-requires-clause-room
apply_one-requires-clause-room c = grind (arith, common_steps)

pub returns-clause-tables : goal.returns-clause-tables
returns-clause-tables c = grind (arith, common_steps)
