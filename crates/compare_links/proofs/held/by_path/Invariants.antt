use Rattle.std.proofs.Common.{◌≡◌, drop}
use Rattle.std.specs.Cmp.Lexicographic.{slice_cmp}
use Rattle.std.specs.FinMap as maps
use Rattle.std.specs.Ordering.{nat_cmp}
use Rattle.compare_links.specs.Fitting.{taken_on}
use Rattle.compare_links.proofs.held.by_path.Given as goal

-- those that are left are put to what is held so far
abbrev pub invariant-loop-row : goal.invariant-loop-row
invariant-loop-row l = taken_on (drop l.row-index l.rows) (maps.from_entries {R = slice_cmp nat_cmp} l.held.entries) ≡ taken_on l.rows maps.empty
