use Rattle.std.proofs.Common.{◌≡◌, ◌<◌, ◌≤◌, List, [], Err, length, get_or, subst, rules}
use Rattle.dl_base.specs.declared.statement.Expr.{Expr}
use Rattle.dl_base.specs.declared.value.Value.{Value}
use Rattle.meaning_sql.specs.Faults.{try_map}
use Rattle.meaning_sql.specs.Values.{meaning}
use Rattle.meaning_sql.proofs.Turns.{refused_as, refused_at, turn_at}
use Rattle.sql_rows.proofs.Making.{tried_all}
use Rattle.sql_rows.proofs.rows.evaluated.Goals as goal

pub returns-in_err-value : goal.returns-in_err-value
returns-in_err-value c =
    let a = c.args in
    let f = λ (e : Expr). meaning a.columns.now a.context.now [] e a.row.now in
    let listed = c.as_slice-expr-items.ensures in
    let here = subst (λ (xs : List Expr). c.loop-expr.expr-index < length xs) listed c.loop-expr-test.true in
    let is-item = subst (λ (xs : List Expr). c.expr-item.result ≡ get_or xs c.loop-expr.expr-index c.expr-item.result) listed c.expr-item.is in
    let e = c.in_err-value.field-0.0 in
    let is : c.from_residual.result ≡ Err e = search rules in
    refused_as (λ (r : List Value). r) c.from_residual.result e (try_map f a.exprs.now) is
    (λ other. refused_at f a.exprs.now c.loop-expr.expr-index c.expr-item.result c.loop-expr.values (try_map f a.exprs.now) here is-item c.loop-expr.invariant e (c.in_err-value.ensures other))

pub loop-expr-preserved : goal.loop-expr-preserved
loop-expr-preserved c =
    let a = c.args in
    let f = λ (e : Expr). meaning a.columns.now a.context.now [] e a.row.now in
    let listed = c.as_slice-expr-items.ensures in
    let here = subst (λ (xs : List Expr). c.loop-expr.expr-index < length xs) listed c.loop-expr-test.true in
    let is-item = subst (λ (xs : List Expr). c.expr-item.result ≡ get_or xs c.loop-expr.expr-index c.expr-item.result) listed c.expr-item.is in
    turn_at f a.exprs.now c.loop-expr.expr-index c.expr-item.result c.loop-expr.values (try_map f a.exprs.now) here is-item c.loop-expr.invariant
    c.in_ok-value.field-0 c.in_ok-value.ensures c.push.new.self c.in_ok-push.ensures.ok

pub returns : goal.returns
returns c =
    let a = c.args in
    let past : length a.exprs.now ≤ c.loop-expr.expr-index = subst (λ (xs : List Expr). length xs ≤ c.loop-expr.expr-index) c.as_slice-expr-items.ensures c.loop-expr-test.false in
    tried_all (λ (e : Expr). meaning a.columns.now a.context.now [] e a.row.now) a.exprs.now c.loop-expr.expr-index c.loop-expr.values past c.loop-expr.invariant
