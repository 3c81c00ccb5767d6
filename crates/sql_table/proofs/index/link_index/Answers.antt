use Rattle.std.proofs.Common.{arith, subst}
use Rattle.dl_pages.specs.Orders.{link_order}
use Rattle.sql_table.specs.Marks.{WithMarks, link_marks}
use Rattle.sql_table.proofs.First.{index_next}
use Rattle.sql_table.proofs.Marking.{index_none}
use Rattle.std.proofs.lemmas.Grind.{common_steps}
use Rattle.sql_table.proofs.index.link_index.Goals as goal

pub loop-i-init : goal.loop-i-init
loop-i-init c = index_none link_order (link_marks c.args.columns.now) c.empty-made.result c.empty-made.ensures

pub loop-i-preserved : goal.loop-i-preserved
loop-i-preserved c = index_next link_order (link_marks c.args.columns.now) c.args.next c.args.rows.now c.loop-i.i c.item-item.result.now c.loop-i.made c.in_ok-made.made c.requires c.item-item.ensures c.loop-i.invariant
    (subst (λ n. WithMarks link_order (link_marks c.args.columns.now c.item-item.result.now.1) n c.loop-i.made c.in_ok-made.made) c.number.ensures
    (subst (λ r. WithMarks link_order (link_marks c.args.columns.now r) c.number.result c.loop-i.made c.in_ok-made.made) c.row.ensures c.in_ok-made.ensures))

pub returns : goal.returns
returns c = grind (arith, common_steps)

pub with_row_links-requires : goal.with_row_links-requires
with_row_links-requires c = c.loop-i.invariant.sorted
