use Rattle.std.proofs.Common.{◌≡◌, ◌<◌, List, Err, length, get_or, subst, arith, rules}
use Rattle.std.proofs.lemmas.Grind.{common_steps}
use Rattle.dl_base.specs.declared.statement.Expr.{Expr}
use Rattle.meaning_sql.specs.declared.AggregateScope.TheVariants as scope
use Rattle.meaning_sql.specs.declared.SqlType.{SqlType}
use Rattle.meaning_sql.specs.Faults.{try_map}
use Rattle.meaning_sql.specs.Types.{type_of}
use Rattle.meaning_sql.proofs.Turns.{refused_as, refused_at, turn_at}
use Rattle.sql_change.proofs.places.types_of.Goals as goal

pub returns : goal.returns
returns c = grind (arith, common_steps)

pub returns-in_err-check_in : goal.returns-in_err-check_in
returns-in_err-check_in c =
    let a = c.args in
    let f = type_of a.columns.now scope.Row in
    let listed = c.as_slice-expr-items.ensures in
    let here = subst (λ (xs : List Expr). c.loop-expr.expr-index < length xs) listed c.loop-expr-test.true in
    let is-item = subst (λ (xs : List Expr). c.expr-item.result ≡ get_or xs c.loop-expr.expr-index c.expr-item.result) listed c.expr-item.is in
    let e = c.in_err-check_in.field-0.0 in
    let is : c.from_residual.result ≡ Err e = search rules in
    refused_as (λ (r : List SqlType). r) c.from_residual.result e (try_map f a.exprs.now) is
    (λ other. refused_at f a.exprs.now c.loop-expr.expr-index c.expr-item.result c.loop-expr.types (try_map f a.exprs.now) here is-item c.loop-expr.invariant e (c.in_err-check_in.ensures.of_type other))

pub loop-expr-preserved : goal.loop-expr-preserved
loop-expr-preserved c =
    let a = c.args in
    let f = type_of a.columns.now scope.Row in
    let listed = c.as_slice-expr-items.ensures in
    let here = subst (λ (xs : List Expr). c.loop-expr.expr-index < length xs) listed c.loop-expr-test.true in
    let is-item = subst (λ (xs : List Expr). c.expr-item.result ≡ get_or xs c.loop-expr.expr-index c.expr-item.result) listed c.expr-item.is in
    turn_at f a.exprs.now c.loop-expr.expr-index c.expr-item.result c.loop-expr.types (try_map f a.exprs.now) here is-item c.loop-expr.invariant
    c.in_ok-check_in.field-0 c.in_ok-check_in.ensures.of_type c.push.new.self c.in_ok-push.ensures.ok
