use Rattle.std.proofs.Common.{take}
use Rattle.dl_pages.specs.Orders.{link_order}
use Rattle.sql_table.specs.Marks.{IsIndex, link_marks}
use Rattle.sql_table.proofs.index.link_index.Given as goal

abbrev pub invariant-loop-i : goal.invariant-loop-i
invariant-loop-i l = IsIndex link_order (link_marks l.columns) (take l.i l.rows) l.made
