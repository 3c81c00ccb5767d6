use Rattle.std.proofs.Common.{drop}
use Rattle.std.specs.Option.{option_map}
use Rattle.compare_files.specs.Effects.{source}
use Rattle.compare_files.proofs.Putting.{Reaches}
use Rattle.compare_files.proofs.effects.put_sources.Given as goal
use Rattle.meaning_settling.specs.Settling.{numbered}

-- the sources so far, and those of the links that are left, are all
abbrev pub invariant-loop-row : goal.invariant-loop-row
invariant-loop-row l = Reaches l.initial.sources.entries l.sources.entries (λ q. option_map source (numbered (drop l.row-index l.gives) q)) (λ q. option_map source (numbered l.gives q))
