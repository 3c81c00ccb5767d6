use Rattle.std.proofs.Common.{arith}
use Rattle.std.proofs.lemmas.Grind.{common_steps}
use Rattle.sql_table.proofs.table.Table.exchange.Goals as goal

pub exchanged-requires-clause-at : goal.exchanged-requires-clause-at
exchanged-requires-clause-at c = grind (arith, common_steps)

pub returns-clause-ok : goal.returns-clause-ok
returns-clause-ok c = grind (arith, common_steps)

pub exchanged-requires-clause-kept : goal.exchanged-requires-clause-kept
exchanged-requires-clause-kept c = grind (arith, common_steps)
