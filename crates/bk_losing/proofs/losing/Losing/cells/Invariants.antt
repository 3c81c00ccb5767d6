use Rattle.std.proofs.Common.{◌≡◌, ◌++◌, drop}
use Rattle.meaning_merge.specs.Restoring.{lost_cells}
use Rattle.bk_losing.specs.Losing.{lost_by}
use Rattle.bk_losing.proofs.losing.Losing.cells.Given as goal

abbrev pub invariant-loop-i : goal.invariant-loop-i
invariant-loop-i l = l.made ++ lost_cells (lost_by l.self) (drop l.i l.target) ≡ lost_cells (lost_by l.self) l.target
