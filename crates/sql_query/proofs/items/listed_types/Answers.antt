use Rattle.std.proofs.Common.{◌≡◌, List, Err, rules}
use Rattle.meaning_sql.specs.Faults.{try_map}
use Rattle.meaning_sql.specs.declared.SqlType.{SqlType}
use Rattle.meaning_sql.proofs.Turns.{refused_as, refused_at, turn_at}
use Rattle.sql_query.specs.Items.{item_type}
use Rattle.sql_query.proofs.items.listed_types.Goals as goal

pub returns-in_err-item_type : goal.returns-in_err-item_type
returns-in_err-item_type c =
    let a = c.args in
    let f = item_type a.columns.now a.scope.now in
    let e = c.in_err-item_type.field-0.0 in
    let is : c.from_residual.result ≡ Err e = search rules in
    refused_as (λ (r : List SqlType). r) c.from_residual.result e (try_map f a.items.now) is
    (λ other. refused_at f a.items.now c.loop-item.item-index c.item-item.result c.loop-item.made (try_map f a.items.now) c.loop-item-test.true c.item-item.is c.loop-item.invariant e (c.in_err-item_type.ensures.of_type other))

pub loop-item-preserved : goal.loop-item-preserved
loop-item-preserved c =
    let a = c.args in
    let f = item_type a.columns.now a.scope.now in
    turn_at f a.items.now c.loop-item.item-index c.item-item.result c.loop-item.made (try_map f a.items.now) c.loop-item-test.true c.item-item.is c.loop-item.invariant
    c.in_ok-item_type.field-0 c.in_ok-item_type.ensures.of_type c.push.new.self c.in_ok-push.ensures.ok
