use Rattle.std.proofs.Common.{◌≡◌, ◌++◌, drop}
use Rattle.sql_query.specs.Items.{cells_from}
use Rattle.sql_query.proofs.items.star_cells.Given as goal

-- the cells so far, and those of what is left
abbrev pub invariant-loop-i : goal.invariant-loop-i
invariant-loop-i l = l.values ++ cells_from l.row l.i (drop l.i l.columns) ≡ cells_from l.row 0 l.columns
