use Rattle.std.proofs.Common.{◌≡◌, drop}
use Rattle.std.specs.BTreeMap.{get}
use Rattle.std.specs.Cmp.Lexicographic.{slice_cmp}
use Rattle.std.specs.List.{list_all}
use Rattle.std.specs.Ordering.{nat_cmp}
use Rattle.compare_links.specs.Moving.{agrees_at}
use Rattle.compare_links.proofs.agree.numbers_agree.Given as goal

-- the rows of all numbers agree if those of the numbers that are left do
abbrev pub invariant-loop-i : goal.invariant-loop-i
invariant-loop-i l = list_all (agrees_at (get (slice_cmp nat_cmp) l.rows) l.table) (drop l.i l.numbers) ≡ list_all (agrees_at (get (slice_cmp nat_cmp) l.rows) l.table) l.numbers
