use Rattle.std.proofs.Common.{◌≡◌, drop}
use Rattle.bk_losing.specs.Losing.{loses_any, lost_by}
use Rattle.bk_losing.proofs.losing.Losing.row_loses.Given as goal

abbrev pub invariant-loop-i : goal.invariant-loop-i
invariant-loop-i l = loses_any (lost_by l.self) (drop l.i l.columns) (drop l.i l.row.values) ≡ loses_any (lost_by l.self) l.columns l.row.values
