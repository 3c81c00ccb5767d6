use Rattle.std.proofs.Common.{◌≡◌, ◌++◌, drop, Ok}
use Rattle.meaning_sql.specs.Faults.{and_then, try_map}
use Rattle.sql_expr.specs.Binding.{bound_value}
use Rattle.sql_rows.proofs.rows.bound_values.Given as goal

-- the values so far, and those of what is left
abbrev pub invariant-loop-right : goal.invariant-loop-right
invariant-loop-right l =
    and_then (try_map (bound_value l.context l.row) (drop l.right-index l.rights)) (λ ys. Ok (l.values ++ ys)) ≡ try_map (bound_value l.context l.row) l.rights
