use Rattle.std.proofs.Common.{◌≡◌, ℕ, List, drop}
use Rattle.std.specs.BTreeMap.{get}
use Rattle.std.specs.Cmp.Lexicographic.{slice_cmp}
use Rattle.std.specs.Ordering.{nat_cmp}
use Rattle.fm_effects.specs.Sites.{taken_of}
use Rattle.meaning_settling.specs.Settling.{on}
use Rattle.fm_effects.proofs.sites.put_takes.Given as goal

-- what is left makes of the sites so far what all links make of the first ones
abbrev pub invariant-loop-row : goal.invariant-loop-row
invariant-loop-row l =
    (q : List ℕ) → taken_of (on (drop l.row-index l.takes) q) (get (slice_cmp nat_cmp) l.sites q) ≡ taken_of (on l.takes q) (get (slice_cmp nat_cmp) l.initial.sites q)
