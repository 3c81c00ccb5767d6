use Rattle.std.proofs.Common.{◌≡◌, ◌++◌, ◌≤◌, All, drop, length, Ok}
use Rattle.dl_base.specs.Limits.{link_numbers}
use Rattle.meaning_sql.specs.Faults.{and_then}
use Rattle.sql_rows.specs.NewRows.{tuple_rows}
use Rattle.sql_rows.proofs.rows.tuple_rows.Given as goal

abbrev pub invariant-loop-tuple : goal.invariant-loop-tuple
invariant-loop-tuple l = record {
  few : l.k ≤ link_numbers;
  wide : All (λ r. length r.values ≡ length l.columns) l.rows;
  one_each : length l.rows ≡ l.tuple-index;
  put : and_then (tuple_rows l.context l.seen l.at l.columns l.places l.k (drop l.tuple-index l.tuples)) (λ q. Ok (l.rows ++ q.0, q.1))
      ≡ tuple_rows l.context l.seen l.at l.columns l.places l.first l.tuples;
}
