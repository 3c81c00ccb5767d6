use Rattle.std.proofs.Common.{◌≡◌, Err, rules}
use Rattle.meaning_sql.specs.Faults.{try_map}
use Rattle.meaning_sql.proofs.Turns.{refused_as, refused_at, turn_at}
use Rattle.sql_expr.specs.Binding.{bound_value}
use Rattle.sql_rows.proofs.rows.bound_values.Goals as goal

pub returns-in_err-value : goal.returns-in_err-value
returns-in_err-value c =
    let a = c.args in
    let f = bound_value a.context.now a.row.now in
    let e = c.in_err-value.field-0.0 in
    let is : c.from_residual.result ≡ Err e = search rules in
    refused_as _ c.from_residual.result e _ is
    (λ other. refused_at f a.rights.now c.loop-right.right-index c.right-item.result c.loop-right.values (try_map f a.rights.now) c.loop-right-test.true c.right-item.is c.loop-right.invariant e (c.in_err-value.ensures other))

pub loop-right-preserved : goal.loop-right-preserved
loop-right-preserved c =
    let a = c.args in
    let f = bound_value a.context.now a.row.now in
    turn_at f a.rights.now c.loop-right.right-index c.right-item.result c.loop-right.values (try_map f a.rights.now) c.loop-right-test.true c.right-item.is c.loop-right.invariant
    c.in_ok-value.field-0 c.in_ok-value.ensures c.push.new.self c.in_ok-push.ensures.ok
