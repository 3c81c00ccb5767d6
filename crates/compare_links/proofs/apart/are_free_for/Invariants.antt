use Rattle.std.proofs.Common.{◌≡◌, drop}
use Rattle.std.specs.BTreeMap.{get}
use Rattle.std.specs.Cmp.Lexicographic.{slice_cmp}
use Rattle.std.specs.Ordering.{nat_cmp}
use Rattle.compare_links.specs.Fitting.{are_free_for}
use Rattle.compare_links.proofs.apart.are_free_for.Given as goal

-- all paths are free if those that are left are
abbrev pub invariant-loop-link : goal.invariant-loop-link
invariant-loop-link l = are_free_for l.tx (get (slice_cmp nat_cmp) l.owners) (drop l.link-index l.links) ≡ are_free_for l.tx (get (slice_cmp nat_cmp) l.owners) l.links
