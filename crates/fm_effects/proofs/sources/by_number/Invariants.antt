use Rattle.std.proofs.Common.{◌≡◌, ℕ, List, drop}
use Rattle.std.specs.BTreeMap.{get}
use Rattle.std.specs.Cmp.Lexicographic.{slice_cmp}
use Rattle.std.specs.Option.{option_or}
use Rattle.std.specs.Ordering.{nat_cmp}
use Rattle.meaning_settling.specs.Settling.{numbered}
use Rattle.fm_effects.proofs.sources.by_number.Given as goal

-- the first link of a number is one so far, or else one of what is left
abbrev pub invariant-loop-row : goal.invariant-loop-row
invariant-loop-row l = (q : List ℕ) → option_or (get (slice_cmp nat_cmp) l.made q) (numbered (drop l.row-index l.gives) q) ≡ numbered l.gives q
