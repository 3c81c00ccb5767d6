use Rattle.std.proofs.Common.{◌≡◌, drop}
use Rattle.std.specs.BTreeMap.{get}
use Rattle.std.specs.Cmp.Lexicographic.{slice_cmp}
use Rattle.std.specs.Ordering.{nat_cmp}
use Rattle.meaning_tables.specs.Links.{row_links}
use Rattle.compare_links.specs.Moving.{all_agree}
use Rattle.compare_links.proofs.agree.row_agrees.Given as goal

-- the links of all cells agree if those of the cells that are left do
abbrev pub invariant-loop-i : goal.invariant-loop-i
invariant-loop-i l = all_agree (get (slice_cmp nat_cmp) l.rows) (row_links (drop l.i l.columns) (drop l.i l.row.values)) ≡ all_agree (get (slice_cmp nat_cmp) l.rows) (row_links l.columns l.row.values)
