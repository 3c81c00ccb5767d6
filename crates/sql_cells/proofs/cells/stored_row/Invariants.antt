use Rattle.std.proofs.Common.{◌≡◌, ◌++◌, ◌≤◌, drop, length, Ok}
use Rattle.dl_base.specs.Limits.{link_numbers}
use Rattle.meaning_sql.specs.Faults.{and_then}
use Rattle.meaning_statements.specs.Assigning.{stored_row}
use Rattle.sql_cells.proofs.cells.stored_row.Given as goal

-- the cells so far and those still to come are the row's
abbrev pub invariant-loop-i : goal.invariant-loop-i
invariant-loop-i l = record {
  few : l.k ≤ link_numbers;
  wide : length l.values ≡ l.i;
  put : and_then (stored_row l.tx l.k l.i (drop l.i l.columns) l.old l.new) (λ q. Ok (l.values ++ q.0, q.1)) ≡ stored_row l.tx l.first 0 l.columns l.old l.new;
}
