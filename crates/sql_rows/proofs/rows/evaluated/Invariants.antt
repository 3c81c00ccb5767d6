use Rattle.std.proofs.Common.{◌≡◌, ◌++◌, [], drop, Ok}
use Rattle.meaning_sql.specs.Faults.{and_then, try_map}
use Rattle.meaning_sql.specs.Values.{meaning}
use Rattle.sql_rows.proofs.rows.evaluated.Given as goal

abbrev pub invariant-loop-expr : goal.invariant-loop-expr
invariant-loop-expr l =
    and_then (try_map (λ e. meaning l.columns l.context [] e l.row) (drop l.expr-index l.exprs)) (λ ys. Ok (l.values ++ ys)) ≡ try_map (λ e. meaning l.columns l.context [] e l.row) l.exprs
