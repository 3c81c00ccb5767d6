use Rattle.std.proofs.Common.{◌≡◌, ◌++◌, drop, Ok}
use Rattle.meaning_sql.specs.Faults.{and_then, try_map}
use Rattle.sql_expr.specs.Binding.{bound_value}
use Rattle.sql_query.proofs.items.bound_cells.Given as goal

-- the cells so far, and those of what is left
abbrev pub invariant-loop-one : goal.invariant-loop-one
invariant-loop-one l = and_then (try_map (bound_value l.context l.row) (drop l.one-index l.bound)) (λ vs. Ok (l.values ++ vs)) ≡ try_map (bound_value l.context l.row) l.bound
