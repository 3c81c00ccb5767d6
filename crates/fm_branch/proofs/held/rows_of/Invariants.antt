use Rattle.std.proofs.Common.{◌≡◌, ◌++◌}
use Rattle.fm_branch.specs.Held.{rows_from}
use Rattle.fm_branch.proofs.held.rows_of.Given as goal

-- the links so far, and those of the places that are left
abbrev pub invariant-loop-path : goal.invariant-loop-path
invariant-loop-path l = l.rows ++ rows_from l.path-iterator ≡ rows_from l.places.entries
