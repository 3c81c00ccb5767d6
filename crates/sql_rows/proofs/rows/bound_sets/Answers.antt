use Rattle.std.proofs.Common.{◌≡◌, ◌<◌, ◌≤◌, ℕ, List, length, get_or, subst}
use Rattle.dl_base.specs.declared.statement.Expr.{Expr}
use Rattle.sql_expr.specs.Binding.{bound_in}
use Rattle.sql_rows.proofs.Making.{mapped_all, mapped_turn}
use Rattle.sql_rows.proofs.rows.bound_sets.Goals as goal

pub loop-set-preserved : goal.loop-set-preserved
loop-set-preserved c =
    let a = c.args in
    let listed = c.as_slice-set-items.ensures in
    let here = subst (λ (xs : List (List ℕ × Expr)). c.loop-set.set-index < length xs) listed c.loop-set-test.true in
    let is-item = subst (λ (xs : List (List ℕ × Expr)). c.set-item.result ≡ get_or xs c.loop-set.set-index c.set-item.result) listed c.set-item.is in
    mapped_turn (λ (s : List ℕ × Expr). bound_in a.all.now s.1) a.sets.now c.loop-set.set-index c.loop-set.rights _ c.loop-set.invariant
    c.set-item.result c.in_ok-new.field-0 c.push.new.self here is-item c.in_ok-new.ensures c.in_ok-push.ensures.ok

pub returns : goal.returns
returns c =
    let a = c.args in
    let past : length a.sets.now ≤ c.loop-set.set-index = subst (λ (xs : List (List ℕ × Expr)). length xs ≤ c.loop-set.set-index) c.as_slice-set-items.ensures c.loop-set-test.false in
    mapped_all (λ (s : List ℕ × Expr). bound_in a.all.now s.1) a.sets.now c.loop-set.set-index c.loop-set.rights _ c.loop-set.invariant past
