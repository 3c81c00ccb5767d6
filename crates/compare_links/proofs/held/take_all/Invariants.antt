use Rattle.std.proofs.Common.{◌≡◌, ◌-◌, drop, length}
use Rattle.std.specs.Cmp.Lexicographic.{slice_cmp}
use Rattle.std.specs.FinMap as maps
use Rattle.std.specs.Ordering.{nat_cmp}
use Rattle.fm_branch.specs.Held.{with_links}
use Rattle.compare_links.proofs.held.take_all.Given as goal

-- the last ones are taken
abbrev pub invariant-loop-i : goal.invariant-loop-i
invariant-loop-i l = maps.from_entries {R = slice_cmp nat_cmp} l.held.entries ≡ with_links (drop (length l.takes - l.i) l.takes) (maps.from_entries l.initial.held.entries)
