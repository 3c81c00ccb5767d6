use Rattle.sql_table.proofs.Named.{named_none}
use Rattle.sql_table.proofs.Ordered.{ordered_none}
use Rattle.sql_table.proofs.roomy.RoomyTables.empty.Goals as goal

pub invariant_of-result : goal.invariant_of-result
invariant_of-result c = (named_none c.new.result.items c.new-2.result.items c.new.ensures.items c.new-2.ensures.items, ordered_none c.new.result.items c.new-3.result.items c.new.ensures.items c.new-3.ensures.items)
