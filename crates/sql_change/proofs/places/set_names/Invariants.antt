use Rattle.std.proofs.Common.{◌≡◌, ◌++◌, drop, map}
use Rattle.sql_change.proofs.places.set_names.Given as goal

abbrev pub invariant-loop-set : goal.invariant-loop-set
invariant-loop-set l = l.made ++ map (λ s. s.0) (drop l.set-index l.sets) ≡ map (λ s. s.0) l.sets
