use Rattle.std.proofs.Common.{◌≡◌}
use Rattle.bk_losing.specs.Losing.{lost_by}
use Rattle.bk_losing.proofs.Without.{RowsSo}
use Rattle.bk_losing.proofs.losing.Losing.set_rows.Given as goal

abbrev pub invariant-loop-i : goal.invariant-loop-i
invariant-loop-i l = record {
  still : l.made ≡ record l.table { rows = l.made.rows };
  so : RowsSo (lost_by l.self) l.table.columns l.table.rows l.i l.made.rows;
}
