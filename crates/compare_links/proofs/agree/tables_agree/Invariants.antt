use Rattle.std.proofs.Common.{◌≡◌, drop}
use Rattle.std.specs.BTreeMap.{get}
use Rattle.std.specs.Cmp.Lexicographic.{slice_cmp}
use Rattle.std.specs.Ordering.{nat_cmp}
use Rattle.meaning_tables.specs.Links.{links}
use Rattle.compare_links.specs.Moving.{all_agree}
use Rattle.compare_links.proofs.agree.tables_agree.Given as goal

-- the links of all tables agree if those of the tables that are left do
abbrev pub invariant-loop-i : goal.invariant-loop-i
invariant-loop-i l = all_agree (get (slice_cmp nat_cmp) l.rows) (links (drop l.i l.after)) ≡ all_agree (get (slice_cmp nat_cmp) l.rows) (links l.after)
