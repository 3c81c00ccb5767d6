use Rattle.sql_table.proofs.Left.{item_left}
use Rattle.db_moved.proofs.Comparing.{row_differs_here, same_row_here}
use Rattle.db_moved.proofs.same.has_same_at.Goals as goal

pub returns-then-not-has_same_row : goal.returns-then-not-has_same_row
returns-then-not-has_same_row c =
    row_differs_here c.args.was.now.rows c.args.now.now.rows c.args.numbers.now c.loop-i.i c.item.result.now c.has_same_row.result
    (item_left c.args.numbers.now c.loop-i.i c.item.result.now c.item.ensures) c.has_same_row.ensures c.if-not-has_same_row.true c.loop-i.invariant

pub loop-i-preserved : goal.loop-i-preserved
loop-i-preserved c =
    same_row_here c.args.was.now.rows c.args.now.now.rows c.args.numbers.now c.loop-i.i c.item.result.now c.has_same_row.result
    (item_left c.args.numbers.now c.loop-i.i c.item.result.now c.item.ensures) c.has_same_row.ensures c.if-not-has_same_row.false c.loop-i.invariant
