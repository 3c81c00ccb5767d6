use Rattle.std.proofs.Common.{◌≡◌, ◌+◌, length}
use Rattle.meaning_sql.specs.Faults.{option_list}
use Rattle.meaning_tables.specs.Tables.{Rise}
use Rattle.sql_rows.specs.Beside.{RowsAgreeBeside}
use Rattle.sql_rows.proofs.Leaving.{LeftSo}
use Rattle.sql_rows.proofs.rows.unset_met.Given as goal

abbrev pub invariant-loop-i : goal.invariant-loop-i
invariant-loop-i l = record {
  beside : RowsAgreeBeside l.removed l.table.rows l.left.rows;
  others : l.left ≡ record l.table { rows = l.left.rows };
  rise : Rise 0 l.table.next l.left.rows;
  told : length l.left.rows + length l.removed ≡ length l.table.rows;
  so : LeftSo l.filter.columns l.context l.table (option_list l.filter.condition) l.left l.i;
}
