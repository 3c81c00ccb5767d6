use Rattle.std.proofs.Common.{◌≡◌, ℕ, List, drop}
use Rattle.std.specs.BTreeMap.{get}
use Rattle.std.specs.Cmp.Lexicographic.{slice_cmp}
use Rattle.std.specs.Ordering.{nat_cmp}
use Rattle.fm_effects.specs.Sites.{given_of}
use Rattle.meaning_settling.specs.Settling.{on}
use Rattle.fm_effects.proofs.sites.put_gives.Given as goal

-- what is left makes of the sites so far what all links make of the first ones
abbrev pub invariant-loop-row : goal.invariant-loop-row
invariant-loop-row l =
    (q : List ℕ) → given_of (on (drop l.row-index l.gives) q) (get (slice_cmp nat_cmp) l.sites q) ≡ given_of (on l.gives q) (get (slice_cmp nat_cmp) l.initial.sites q)
