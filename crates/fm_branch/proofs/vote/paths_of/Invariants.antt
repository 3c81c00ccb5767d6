use Rattle.std.proofs.Common.{◌≡◌, ◌||◌, ℕ, List, drop}
use Rattle.std.specs.BTreeSet.{contains}
use Rattle.std.specs.Cmp.Lexicographic.{slice_cmp}
use Rattle.std.specs.Ordering.{nat_cmp}
use Rattle.meaning_areas.specs.Branches.{given_on}
use Rattle.fm_branch.proofs.vote.paths_of.Given as goal

-- the paths so far, and those of what is left, are all
abbrev pub invariant-loop-link : goal.invariant-loop-link
invariant-loop-link l = (q : List ℕ) → (contains (slice_cmp nat_cmp) l.paths q || given_on (drop l.link-index l.links) q) ≡ given_on l.links q
