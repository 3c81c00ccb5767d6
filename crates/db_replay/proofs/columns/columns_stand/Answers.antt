use Rattle.std.proofs.Common.{arith}
use Rattle.db_replay.proofs.ColumnLaws.{columns_stand_is}
use Rattle.db_replay.proofs.columns.columns_stand.Goals as goal

pub returns-else-names_differ : goal.returns-else-names_differ
returns-else-names_differ c = grind (arith, columns_stand_is)

pub returns-then-names_differ : goal.returns-then-names_differ
returns-then-names_differ c = grind (arith, columns_stand_is)
