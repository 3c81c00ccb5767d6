use Rattle.std.proofs.Common.{◌≡◌, drop}
use Rattle.std.specs.Cmp.Lexicographic.{slice_cmp}
use Rattle.std.specs.FinMap as maps
use Rattle.std.specs.Ordering.{nat_cmp}
use Rattle.fm_branch.specs.Held.{without_links}
use Rattle.compare_links.proofs.held.give_all.Given as goal

-- those that are left are given from what is held so far
abbrev pub invariant-loop-link : goal.invariant-loop-link
invariant-loop-link l = without_links (drop l.link-index l.gives) (maps.from_entries {R = slice_cmp nat_cmp} l.held.entries) ≡ without_links l.gives (maps.from_entries l.initial.held.entries)
