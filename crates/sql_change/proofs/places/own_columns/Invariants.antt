use Rattle.std.proofs.Common.{◌≡◌, ◌++◌, drop, map}
use Rattle.sql_change.proofs.places.own_columns.Given as goal

abbrev pub invariant-loop-column : goal.invariant-loop-column
invariant-loop-column l = l.made ++ map (λ c. (l.name, c)) (drop l.column-index l.columns) ≡ map (λ c. (l.name, c)) l.columns
