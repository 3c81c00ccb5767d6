use Rattle.std.proofs.Common.{◌≡◌, ℕ, List, drop}
use Rattle.std.specs.BTreeSet.{contains}
use Rattle.std.specs.Cmp.Lexicographic.{slice_cmp}
use Rattle.std.specs.Ordering.{nat_cmp}
use Rattle.compare_links.specs.Moving.{without_paths}
use Rattle.compare_links.proofs.paths.give_paths.Given as goal

-- the paths so far, without those that are left to be given
abbrev pub invariant-loop-link : goal.invariant-loop-link
invariant-loop-link l = (q : List ℕ) → without_paths (drop l.link-index l.gives) (contains (slice_cmp nat_cmp) l.paths) q ≡ without_paths l.gives (contains (slice_cmp nat_cmp) l.initial.paths) q
