use Rattle.std.proofs.Common.{arith}
use Rattle.std.proofs.lemmas.Grind.{common_steps}
use Rattle.sql_change.proofs.updating.keys_differ.Goals as goal

pub has_own_key-requires-clause-one : goal.has_own_key-requires-clause-one
has_own_key-requires-clause-one c = grind (arith, common_steps)
