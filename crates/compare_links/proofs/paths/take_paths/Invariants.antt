use Rattle.std.proofs.Common.{◌≡◌, ℕ, List, drop}
use Rattle.std.specs.BTreeSet.{contains}
use Rattle.std.specs.Cmp.Lexicographic.{slice_cmp}
use Rattle.std.specs.Ordering.{nat_cmp}
use Rattle.compare_links.specs.Moving.{are_free, with_paths}
use Rattle.compare_links.proofs.paths.take_paths.Given as goal

-- the paths so far, with those that are left to be taken
abbrev pub invariant-loop-link : goal.invariant-loop-link
invariant-loop-link l = record {
  free : are_free (contains (slice_cmp nat_cmp) l.paths) (drop l.link-index l.takes) ≡ are_free (contains (slice_cmp nat_cmp) l.initial.paths) l.takes;
  paths : (q : List ℕ) → with_paths (drop l.link-index l.takes) (contains (slice_cmp nat_cmp) l.paths) q ≡ with_paths l.takes (contains (slice_cmp nat_cmp) l.initial.paths) q;
}
