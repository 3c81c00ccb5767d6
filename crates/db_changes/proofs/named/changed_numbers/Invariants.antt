use Rattle.std.proofs.Common.{◌≡◌, ◌++◌, drop, map}
use Rattle.db_changes.proofs.named.changed_numbers.Given as goal

abbrev pub invariant-loop-change : goal.invariant-loop-change
invariant-loop-change l = l.numbers ++ map (λ c. c.number) (drop l.change-index l.made) ≡ map (λ c. c.number) l.made
