use Rattle.std.proofs.Common.{◌≡◌, ◌++◌, drop, Ok}
use Rattle.meaning_sql.specs.declared.AggregateScope.TheVariants as scope
use Rattle.meaning_sql.specs.Faults.{and_then, try_map}
use Rattle.meaning_sql.specs.Types.{type_of}
use Rattle.sql_change.proofs.places.types_of_sets.Given as goal

abbrev pub invariant-loop-set : goal.invariant-loop-set
invariant-loop-set l = and_then (try_map (λ s. type_of l.columns scope.Row s.1) (drop l.set-index l.sets)) (λ ts. Ok (l.types ++ ts)) ≡ try_map (λ s. type_of l.columns scope.Row s.1) l.sets
