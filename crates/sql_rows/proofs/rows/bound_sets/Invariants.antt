use Rattle.std.proofs.Common.{◌≡◌, ◌++◌, drop, map}
use Rattle.sql_expr.specs.Binding.{bound_in}
use Rattle.sql_rows.proofs.rows.bound_sets.Given as goal

-- the right sides so far, and those of what is left
abbrev pub invariant-loop-set : goal.invariant-loop-set
invariant-loop-set l = l.rights ++ map (λ s. bound_in l.all s.1) (drop l.set-index l.sets) ≡ map (λ s. bound_in l.all s.1) l.sets
