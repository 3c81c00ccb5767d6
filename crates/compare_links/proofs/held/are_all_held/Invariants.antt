use Rattle.std.proofs.Common.{drop}
use Rattle.std.specs.Cmp.Lexicographic.{slice_cmp}
use Rattle.std.specs.FinMap as maps
use Rattle.std.specs.Ordering.{nat_cmp}
use Rattle.compare_links.proofs.Holding.{IsLeft}
use Rattle.compare_links.proofs.held.are_all_held.Given as goal

-- all are what is held if those that are left are what is left
abbrev pub invariant-loop-link : goal.invariant-loop-link
invariant-loop-link l = IsLeft (maps.from_entries {R = slice_cmp nat_cmp} l.initial.left.entries) l.links (maps.from_entries l.left.entries) (drop l.link-index l.links)
