use Rattle.std.proofs.Common.{◌≡◌, ◌<◌, ℕ, List, Err, length, get_or, subst, arith, rules}
use Rattle.std.proofs.lemmas.Grind.{common_steps}
use Rattle.dl_base.specs.declared.statement.Expr.{Expr}
use Rattle.meaning_sql.specs.declared.AggregateScope.TheVariants as scope
use Rattle.meaning_sql.specs.declared.SqlType.{SqlType}
use Rattle.meaning_sql.specs.Faults.{try_map}
use Rattle.meaning_sql.specs.Types.{type_of}
use Rattle.meaning_sql.proofs.Turns.{refused_as, refused_at, turn_at}
use Rattle.sql_change.proofs.places.types_of_sets.Goals as goal

pub returns : goal.returns
returns c = grind (arith, common_steps)

pub returns-in_err-check_in : goal.returns-in_err-check_in
returns-in_err-check_in c =
    let a = c.args in
    let f = λ (s : List ℕ × Expr). type_of a.columns.now scope.Row s.1 in
    let listed = c.as_slice-set-items.ensures in
    let here = subst (λ (xs : List (List ℕ × Expr)). c.loop-set.set-index < length xs) listed c.loop-set-test.true in
    let is-item = subst (λ (xs : List (List ℕ × Expr)). c.set-item.result ≡ get_or xs c.loop-set.set-index c.set-item.result) listed c.set-item.is in
    let e = c.in_err-check_in.field-0.0 in
    let is : c.from_residual.result ≡ Err e = search rules in
    refused_as (λ (r : List SqlType). r) c.from_residual.result e (try_map f a.sets.now) is
    (λ other. refused_at f a.sets.now c.loop-set.set-index c.set-item.result c.loop-set.types (try_map f a.sets.now) here is-item c.loop-set.invariant e (c.in_err-check_in.ensures.of_type other))

pub loop-set-preserved : goal.loop-set-preserved
loop-set-preserved c =
    let a = c.args in
    let f = λ (s : List ℕ × Expr). type_of a.columns.now scope.Row s.1 in
    let listed = c.as_slice-set-items.ensures in
    let here = subst (λ (xs : List (List ℕ × Expr)). c.loop-set.set-index < length xs) listed c.loop-set-test.true in
    let is-item = subst (λ (xs : List (List ℕ × Expr)). c.set-item.result ≡ get_or xs c.loop-set.set-index c.set-item.result) listed c.set-item.is in
    turn_at f a.sets.now c.loop-set.set-index c.set-item.result c.loop-set.types (try_map f a.sets.now) here is-item c.loop-set.invariant
    c.in_ok-check_in.field-0 c.in_ok-check_in.ensures.of_type c.push.new.self c.in_ok-push.ensures.ok
