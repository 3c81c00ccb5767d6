use Rattle.std.proofs.Common.{◌≡◌, ◌++◌, drop, Ok}
use Rattle.meaning_sql.specs.declared.AggregateScope.TheVariants as scope
use Rattle.meaning_sql.specs.Faults.{and_then, try_map}
use Rattle.meaning_sql.specs.Types.{type_of}
use Rattle.sql_change.proofs.places.tuple_types.Given as goal

abbrev pub invariant-loop-tuple : goal.invariant-loop-tuple
invariant-loop-tuple l = and_then (try_map (try_map (type_of l.columns scope.Row)) (drop l.tuple-index l.tuples)) (λ ts. Ok (l.types ++ ts)) ≡ try_map (try_map (type_of l.columns scope.Row)) l.tuples
