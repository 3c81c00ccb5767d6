use Rattle.std.proofs.Common.{◌≡◌, ◌++◌, drop}
use Rattle.meaning_merge.specs.Restoring.{without_cells}
use Rattle.bk_losing.specs.Losing.{lost_by}
use Rattle.bk_losing.proofs.losing.Losing.row_without.Given as goal

abbrev pub invariant-loop-i : goal.invariant-loop-i
invariant-loop-i l = l.values ++ without_cells (lost_by l.self) (drop l.i l.columns) (drop l.i l.row.values) ≡ without_cells (lost_by l.self) l.columns l.row.values
