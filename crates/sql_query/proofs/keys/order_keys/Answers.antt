use Rattle.meaning_sql.specs.Faults.{try_map}
use Rattle.meaning_sql.proofs.Turns.{turn_at}
use Rattle.sql_query.specs.Items.{key_found}
use Rattle.sql_query.proofs.keys.order_keys.Goals as goal

pub loop-key-preserved : goal.loop-key-preserved
loop-key-preserved c =
    let a = c.args in
    let f = key_found a.columns.now a.items.now a.scope.now in
    turn_at f a.order.now c.loop-key.key-index c.key-item.result c.loop-key.made (try_map f a.order.now) c.loop-key-test.true c.key-item.is c.loop-key.invariant
    c.in_ok-key_of.field-0 c.in_ok-key_of.ensures.key c.push.new.self c.in_ok-push.ensures.ok
