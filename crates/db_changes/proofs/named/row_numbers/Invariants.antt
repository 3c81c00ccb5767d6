use Rattle.std.proofs.Common.{◌≡◌, ◌++◌, drop, map}
use Rattle.db_changes.proofs.named.row_numbers.Given as goal

abbrev pub invariant-loop-i : goal.invariant-loop-i
invariant-loop-i l = l.numbers ++ map (λ r. r.0) (drop l.i l.table.rows) ≡ map (λ r. r.0) l.table.rows
