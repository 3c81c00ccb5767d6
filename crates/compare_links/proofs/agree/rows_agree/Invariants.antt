use Rattle.std.proofs.Common.{◌≡◌, drop}
use Rattle.std.specs.BTreeMap.{get}
use Rattle.std.specs.Cmp.Lexicographic.{slice_cmp}
use Rattle.std.specs.List.{flat_map}
use Rattle.std.specs.Ordering.{nat_cmp}
use Rattle.meaning_tables.specs.Links.{row_links, table_links}
use Rattle.compare_links.specs.Moving.{all_agree}
use Rattle.compare_links.proofs.agree.rows_agree.Given as goal

-- the links of all rows agree if those of the rows that are left do
abbrev pub invariant-loop-i : goal.invariant-loop-i
invariant-loop-i l = all_agree (get (slice_cmp nat_cmp) l.rows) (flat_map (λ r. row_links l.table.columns r.1.values) (drop l.i l.table.rows)) ≡ all_agree (get (slice_cmp nat_cmp) l.rows) (table_links l.table)
