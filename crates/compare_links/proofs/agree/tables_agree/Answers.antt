use Rattle.std.proofs.Common.{◌+◌, ℕ, List, drop, arith}
use Rattle.std.specs.BTreeMap.{get}
use Rattle.std.specs.Cmp.Lexicographic.{slice_cmp}
use Rattle.std.specs.Ordering.{nat_cmp}
use Rattle.db_changes.proofs.Fates.{found-at}
use Rattle.db_changes.proofs.Leading.{distinct-named}
use Rattle.db_moved.proofs.Comparing.{old_at}
use Rattle.meaning_tables.specs.Tables.{Rows, Tables}
use Rattle.compare_links.proofs.Agreeing.{stays-known}
use Rattle.std.proofs.lemmas.Grind.{common_steps}
use Rattle.compare_links.proofs.agree.tables_agree.Goals as goal

pub table_agrees-requires : goal.table_agrees-requires
table_agrees-requires c =
    let t : List ℕ × Rows = (c.in-Some.name.now, c.in-Some.table.now) in
    let rest : Tables = drop (c.loop-i.i + 1) c.args.after.now in
    stays-known (get (slice_cmp nat_cmp) c.args.rows.now) c.args.touched.now c.args.before.now c.args.after.now c.in-Some.name.now c.in-Some.table.now c.requires.has c.requires.covers
    (found-at c.args.after.now c.loop-i.i t rest (distinct-named c.args.after.now c.len-i-end.ensures.distinct) c.in-Some.ensures.left)
    (old_at c.args.after.now c.loop-i.i t rest c.requires.committed c.in-Some.ensures.left)

pub loop-i-preserved : goal.loop-i-preserved
loop-i-preserved c = grind (arith, common_steps)

pub returns : goal.returns
returns c = grind (arith, common_steps)

pub returns-then-not-table_agrees : goal.returns-then-not-table_agrees
returns-then-not-table_agrees c = grind (arith, common_steps)
