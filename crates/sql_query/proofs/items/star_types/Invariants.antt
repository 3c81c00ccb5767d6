use Rattle.std.proofs.Common.{◌≡◌, ◌++◌, drop, Ok}
use Rattle.meaning_sql.specs.Faults.{and_then, try_map}
use Rattle.sql_query.specs.Items.{star_type}
use Rattle.sql_query.proofs.items.star_types.Given as goal

-- the types so far, and those of what is left
abbrev pub invariant-loop-c : goal.invariant-loop-c
invariant-loop-c l = and_then (try_map (star_type l.scope) (drop l.c-index l.columns)) (λ ts. Ok (l.made ++ ts)) ≡ try_map (star_type l.scope) l.columns
