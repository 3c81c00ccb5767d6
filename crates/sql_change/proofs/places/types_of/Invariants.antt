use Rattle.std.proofs.Common.{◌≡◌, ◌++◌, drop, Ok}
use Rattle.meaning_sql.specs.declared.AggregateScope.TheVariants as scope
use Rattle.meaning_sql.specs.Faults.{and_then, try_map}
use Rattle.meaning_sql.specs.Types.{type_of}
use Rattle.sql_change.proofs.places.types_of.Given as goal

abbrev pub invariant-loop-expr : goal.invariant-loop-expr
invariant-loop-expr l = and_then (try_map (type_of l.columns scope.Row) (drop l.expr-index l.exprs)) (λ ts. Ok (l.types ++ ts)) ≡ try_map (type_of l.columns scope.Row) l.exprs
