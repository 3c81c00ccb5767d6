use Rattle.std.proofs.Common.{◌≡◌, ◌+◌, ◌≤◌, [], All, None, length}
use Rattle.std.specs.Vec.Iter.{into_iter_items}
use Rattle.dl_base.specs.Limits.{most_rows, row_numbers}
use Rattle.meaning_tables.specs.Fits.{repeated}
use Rattle.sql_rows.specs.NewRows.{counted}
use Rattle.sql_change.specs.Parts.{grown_table}
use Rattle.sql_change.proofs.inserting.put_keyed_rows.Given as goal

abbrev pub invariant-loop-row : goal.invariant-loop-row
invariant-loop-row l = record {
  few : length l.made.rows + length (into_iter_items l.row-iterator) ≤ most_rows;
  small : l.made.next + length (into_iter_items l.row-iterator) ≤ row_numbers;
  all : grown_table l.made (counted l.made.next (into_iter_items l.row-iterator)) (length (into_iter_items l.row-iterator)) ≡ grown_table l.fn.made (counted l.fn.made.next l.fn.more) (length l.fn.more);
  columns : l.made.columns ≡ l.fn.made.columns;
  none : repeated l.made.columns [] l.made.rows ≡ None;
  wide : All (λ r. length r.values ≡ length l.fn.made.columns) (into_iter_items l.row-iterator);
}
