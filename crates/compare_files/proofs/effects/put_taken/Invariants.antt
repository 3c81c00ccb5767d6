use Rattle.std.proofs.Common.{drop}
use Rattle.std.specs.Option.{option_map}
use Rattle.compare_files.specs.Effects.{taken}
use Rattle.compare_files.proofs.Putting.{Reaches}
use Rattle.compare_files.proofs.effects.put_taken.Given as goal
use Rattle.meaning_settling.specs.Settling.{on}

-- the effects so far, and those of the links that are left, are all
abbrev pub invariant-loop-row : goal.invariant-loop-row
invariant-loop-row l = Reaches l.initial.effects.entries l.effects.entries (λ q. option_map (taken l.fill) (on (drop l.row-index l.takes) q)) (λ q. option_map (taken l.fill) (on l.takes q))
