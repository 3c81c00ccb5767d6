use Rattle.std.proofs.Common.{◌≡◌, ◌++◌, drop}
use Rattle.sql_query.specs.Grouping.{known_places}
use Rattle.sql_query.proofs.grouping.known_places.Given as goal

-- the places so far, and those of what is left
abbrev pub invariant-loop-r : goal.invariant-loop-r
invariant-loop-r l = l.made ++ known_places l.columns (drop l.r-index l.group) ≡ known_places l.columns l.group
