use Rattle.std.proofs.Common.{arith}
use Rattle.db_store.proofs.HistoryLaws.{opens_next, opens_none}
use Rattle.db_store.proofs.history.History.opens.Goals as goal

pub returns : goal.returns
returns c = grind (arith, opens_next, opens_none)

pub returns-then-from : goal.returns-then-from
returns-then-from c = grind (arith, opens_next, opens_none)
