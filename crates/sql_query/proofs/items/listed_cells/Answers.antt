use Rattle.meaning_sql.specs.Faults.{try_map}
use Rattle.meaning_sql.proofs.Turns.{turn_at}
use Rattle.sql_query.specs.Items.{item_at}
use Rattle.sql_query.proofs.items.listed_cells.Goals as goal

pub loop-item-preserved : goal.loop-item-preserved
loop-item-preserved c =
    let a = c.args in
    let f = item_at a.columns.now a.context.now a.group.now a.row.now in
    turn_at f a.items.now c.loop-item.item-index c.item-item.result c.loop-item.values (try_map f a.items.now) c.loop-item-test.true c.item-item.is c.loop-item.invariant
    c.in_ok-evaluate.field-0 c.in_ok-evaluate.ensures c.push.new.self c.in_ok-push.ensures.ok
