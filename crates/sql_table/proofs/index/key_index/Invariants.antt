use Rattle.std.proofs.Common.{take}
use Rattle.sql_table.specs.Keys.{key_order, key_marks}
use Rattle.sql_table.specs.Marks.{IsIndex}
use Rattle.sql_table.proofs.index.key_index.Given as goal

abbrev pub invariant-loop-i : goal.invariant-loop-i
invariant-loop-i l = IsIndex key_order (key_marks l.columns) (take l.i l.rows) l.made
