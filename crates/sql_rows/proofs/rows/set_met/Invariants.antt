use Rattle.std.proofs.Common.{◌≡◌, ◌≤◌, length, map}
use Rattle.dl_base.specs.Limits.{link_numbers}
use Rattle.meaning_sql.specs.Faults.{option_list}
use Rattle.meaning_tables.specs.Tables.{Rise}
use Rattle.sql_rows.specs.Beside.{RowsAgreeBeside}
use Rattle.sql_rows.proofs.Updating.{UpdatedSo}
use Rattle.sql_rows.proofs.rows.set_met.Given as goal

abbrev pub invariant-loop-i : goal.invariant-loop-i
invariant-loop-i l = record {
  beside : RowsAgreeBeside l.numbers l.table.rows l.made.rows;
  few : l.k ≤ link_numbers;
  met : l.met ≤ l.i;
  others : l.made ≡ record l.table { rows = l.made.rows };
  rise : Rise 0 l.table.next l.made.rows;
  told : length l.numbers ≡ l.met;
  so : UpdatedSo l.filter.columns l.context l.table (option_list l.filter.condition) l.places (map (λ b. b.expr) l.rights) l.first l.made l.i l.k l.met;
}
