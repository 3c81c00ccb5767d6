use Rattle.std.proofs.Common.{arith}
use Rattle.std.proofs.lemmas.Grind.{common_steps}
use Rattle.sql_table.proofs.table.Table.take_copied.Goals as goal

pub without-requires-clause-at : goal.without-requires-clause-at
without-requires-clause-at c = grind (arith, common_steps)

pub without-requires-clause-kept : goal.without-requires-clause-kept
without-requires-clause-kept c = grind (arith, common_steps)

pub returns-clause-ok : goal.returns-clause-ok
returns-clause-ok c = grind (arith, common_steps)
