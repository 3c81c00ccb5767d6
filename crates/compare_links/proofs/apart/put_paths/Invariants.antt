use Rattle.std.proofs.Common.{◌≡◌, ℕ, List, Some, cond, drop}
use Rattle.std.specs.BTreeMap.{get}
use Rattle.std.specs.Cmp.Lexicographic.{slice_cmp}
use Rattle.std.specs.Ordering.{nat_cmp}
use Rattle.meaning_areas.specs.Branches.{given_on}
use Rattle.compare_links.proofs.apart.put_paths.Given as goal

-- the owners so far, with the paths that are left
abbrev pub invariant-loop-link : goal.invariant-loop-link
invariant-loop-link l = (q : List ℕ) → cond (given_on (drop l.link-index l.links) q) (Some l.tx) (get (slice_cmp nat_cmp) l.owners q) ≡ cond (given_on l.links q) (Some l.tx) (get (slice_cmp nat_cmp) l.initial.owners q)
