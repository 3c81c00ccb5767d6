use Rattle.std.proofs.Common.{◌≡◌, drop}
use Rattle.std.specs.Prelude.{map}
use Rattle.dl_base.specs.declared.value.Value.TheVariants as values
use Rattle.meaning_sql.specs.Operators.{gathered}
use Rattle.sql_expr.specs.Trees.{said_value}
use Rattle.sql_expr.proofs.evaluation.+value_over.Given as goal

-- the aggregate so far, and the rows to come
abbrev pub invariant-rows : goal.invariant-rows
invariant-rows l =
    let at = said_value l.context l.group l.inner in
    gathered l.fold l.so_far (map at (drop l.one-index l.group)) ≡ gathered l.fold values.Null (map at l.group)
