use Rattle.std.proofs.Common.{◌≡◌, ◌<◌, ◌≤◌, ◌++◌, ◌∷◌, [], List, All, Err, length, get_or, sym, ap, ◌∙◌, subst, arith, rules}
use Rattle.dl_base.specs.declared.statement.Expr.{Expr}
use Rattle.dl_base.specs.declared.value.Row.{Row}
use Rattle.meaning_sql.proofs.Turns.{refused_as}
use Rattle.sql_rows.proofs.Beside.{push_length}
use Rattle.sql_rows.proofs.Making.{of_fault, tuple_put, tuple_refused, tuples_all}
use Rattle.sql_rows.proofs.Wide.{wide_pushed}
use Rattle.sql_rows.proofs.rows.tuple_rows.Goals as goal

pub returns-in_err-put : goal.returns-in_err-put
returns-in_err-put c =
    let a = c.args in
    let listed = c.as_slice-tuple-items.ensures in
    let here = subst (λ (xs : List (List Expr)). c.loop-tuple.tuple-index < length xs) listed c.loop-tuple-test.true in
    let is-item = subst (λ (xs : List (List Expr)). c.tuple-item.result ≡ get_or xs c.loop-tuple.tuple-index c.tuple-item.result) listed c.tuple-item.is in
    let e = c.in_err-put.field-0.0 in
    let is : c.from_residual.result ≡ Err e = search rules in
    record {
      put = refused_as _ c.from_residual.result e _ is
          (λ other. tuple_refused a.context.now a.seen.now a.at.now a.columns.now a.places.now a.tuples.now c.loop-tuple.tuple-index c.loop-tuple.k c.loop-tuple.rows _ c.loop-tuple.invariant.put c.tuple-item.result here is-item e (c.in_err-put.ensures.put other));
      few = of_fault c.from_residual.result e _ is;
      one_each = of_fault c.from_residual.result e _ is;
      wide = of_fault c.from_residual.result e _ is;
    }

pub loop-tuple-preserved : goal.loop-tuple-preserved
loop-tuple-preserved c =
    let a = c.args in
    let listed = c.as_slice-tuple-items.ensures in
    let here = subst (λ (xs : List (List Expr)). c.loop-tuple.tuple-index < length xs) listed c.loop-tuple-test.true in
    let is-item = subst (λ (xs : List (List Expr)). c.tuple-item.result ≡ get_or xs c.loop-tuple.tuple-index c.tuple-item.result) listed c.tuple-item.is in
    let put = c.in_ok-put.put in
    let row : Row = record { values = put.values } in
    let pushed : c.push.new.self ≡ c.loop-tuple.rows ++ row ∷ [] = c.in_ok-push.ensures.ok in
    record {
      few = c.in_ok-put.ensures.few;
      wide = subst (λ (rs : List Row). All (λ r. length r.values ≡ length a.columns.now) rs) (sym pushed) (wide_pushed (length a.columns.now) c.loop-tuple.rows row c.loop-tuple.invariant.wide c.in_ok-put.ensures.wide);
      one_each = omega (arith, ap (λ (rs : List Row). length rs) pushed ∙ push_length c.loop-tuple.rows row, c.loop-tuple.invariant.one_each);
      put = tuple_put a.context.now a.seen.now a.at.now a.columns.now a.places.now a.tuples.now c.loop-tuple.tuple-index c.loop-tuple.k c.loop-tuple.rows _ c.loop-tuple.invariant.put c.tuple-item.result here is-item row put.next c.push.new.self c.in_ok-put.ensures.put pushed;
    }

pub returns : goal.returns
returns c =
    let a = c.args in
    let past : length a.tuples.now ≤ c.loop-tuple.tuple-index = subst (λ (xs : List (List Expr)). length xs ≤ c.loop-tuple.tuple-index) c.as_slice-tuple-items.ensures c.loop-tuple-test.false in
    let within : c.loop-tuple.tuple-index ≤ length a.tuples.now = search rules in
    record {
      put = tuples_all a.context.now a.seen.now a.at.now a.columns.now a.places.now a.tuples.now c.loop-tuple.tuple-index c.loop-tuple.k c.loop-tuple.rows _ c.loop-tuple.invariant.put past;
      few = c.loop-tuple.invariant.few;
      one_each = omega (arith, c.loop-tuple.invariant.one_each, past, within);
      wide = c.loop-tuple.invariant.wide;
    }
