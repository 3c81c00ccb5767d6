use Rattle.std.proofs.Common.{arith}
use Rattle.std.proofs.lemmas.Grind.{common_steps}
use Rattle.sql_change.proofs.inserting.put_new_rows.Goals as goal

pub put_keyed_rows-requires-clause-wide : goal.put_keyed_rows-requires-clause-wide
put_keyed_rows-requires-clause-wide c = grind (arith, common_steps)
