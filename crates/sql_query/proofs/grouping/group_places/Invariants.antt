use Rattle.std.proofs.Common.{◌≡◌, ◌++◌, drop, Ok}
use Rattle.meaning_sql.specs.Faults.{and_then, try_map}
use Rattle.meaning_statements.specs.Selecting.{group_place}
use Rattle.sql_query.proofs.grouping.group_places.Given as goal

-- the places so far, and those of what is left
abbrev pub invariant-loop-r : goal.invariant-loop-r
invariant-loop-r l = and_then (try_map (group_place l.columns) (drop l.r-index l.group)) (λ ps. Ok (l.made ++ ps)) ≡ try_map (group_place l.columns) l.group
