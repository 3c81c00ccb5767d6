use Rattle.std.proofs.Common.{◌≡◌, ◌++◌, drop}
use Rattle.meaning_merge.specs.Restoring.{lost_in}
use Rattle.bk_losing.specs.Losing.{lost_by}
use Rattle.bk_losing.proofs.losing.Losing.put_row.Given as goal

abbrev pub invariant-loop-i : goal.invariant-loop-i
invariant-loop-i l = l.made ++ lost_in (lost_by l.self) l.table l.number (drop l.i l.columns) (drop l.i l.row.values) ≡ l.fn.made ++ lost_in (lost_by l.self) l.table l.number l.columns l.row.values
