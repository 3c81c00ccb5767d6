use Rattle.std.proofs.Common.{◌≡◌, List, Ok, Err, ap, rules}
use Rattle.std.specs.Prelude.{Result}
use Rattle.dl_base.specs.declared.sql_fault.SqlFault.{SqlFault}
use Rattle.dl_base.specs.declared.value.Row.{Row}
use Rattle.dl_base.specs.declared.value.Value.{Value}
use Rattle.meaning_sql.specs.Faults.{◌>>=◌, try_map}
use Rattle.meaning_sql.proofs.Turns.{refused_as, refused_at, turn_at}
use Rattle.meaning_statements.specs.Selecting.{row_of_cells}
use Rattle.sql_expr.specs.Binding.{bound_value}
use Rattle.sql_query.specs.Items.{bound_row}
use Rattle.sql_query.proofs.items.bound_cells.Goals as goal

pub returns-in_err-value : goal.returns-in_err-value
returns-in_err-value c =
    let a = c.args in
    let f = bound_value a.context.now a.row.now in
    let e = c.in_err-value.field-0.0 in
    let is : c.from_residual.result ≡ Err e = search rules in
    refused_as (λ (r : Row). r) c.from_residual.result e (bound_row a.context.now a.bound.now a.row.now) is
    (λ other. ap (λ (m : Result (List Value) SqlFault). m >>= λ cells. Ok (row_of_cells cells))
    (refused_at f a.bound.now c.loop-one.one-index c.one-item.result c.loop-one.values (try_map f a.bound.now) c.loop-one-test.true c.one-item.is c.loop-one.invariant e (c.in_err-value.ensures other)))

pub loop-one-preserved : goal.loop-one-preserved
loop-one-preserved c =
    let a = c.args in
    let f = bound_value a.context.now a.row.now in
    turn_at f a.bound.now c.loop-one.one-index c.one-item.result c.loop-one.values (try_map f a.bound.now) c.loop-one-test.true c.one-item.is c.loop-one.invariant
    c.in_ok-value.field-0 c.in_ok-value.ensures c.push.new.self c.in_ok-push.ensures.ok
