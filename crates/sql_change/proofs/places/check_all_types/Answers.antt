use Rattle.std.proofs.Common.{◌+◌, List, length, drop, sym, ap, ◌∙◌, arith}
use Rattle.std.proofs.lemmas.List.{drop_all}
use Rattle.meaning_sql.specs.declared.SqlType.{SqlType}
use Rattle.meaning_statements.specs.Changing.{assigned}
use Rattle.sql_change.specs.Steps.{cleared}
use Rattle.sql_change.proofs.Clearing.{pass_each, stop_each, stops_first, passing}
use Rattle.sql_change.proofs.Columns.{left}
use Rattle.std.proofs.lemmas.Grind.{common_steps}
use Rattle.sql_change.proofs.places.check_all_types.Goals as goal

pub returns-in-Err : goal.returns-in-Err
returns-in-Err c =
    let step = assigned c.args.columns.now c.args.places.now in
    let at = left c.as_slice-one-items.result.now c.args.types.now c.loop-one.one-index c.one-item.result c.as_slice-one-items.ensures c.loop-one-test.true c.one-item.is in
    stop_each step c.args.types.now c.in-Err.fault
    (sym c.loop-one.invariant ∙ ap (λ (ts : List (List SqlType)). cleared step ts) at ∙ stops_first step c.one-item.result (drop (c.loop-one.one-index + 1) c.args.types.now) c.in-Err.fault c.in-Err.ensures)

pub returns : goal.returns
returns c =
    let step = assigned c.args.columns.now c.args.places.now in
    let none = drop_all c.loop-one.one-index c.args.types.now (omega (arith, ap length c.as_slice-one-items.ensures)) in
    pass_each step c.args.types.now (sym c.loop-one.invariant ∙ ap (λ (ts : List (List SqlType)). cleared step ts) none)

pub loop-one-preserved : goal.loop-one-preserved
loop-one-preserved c = grind (arith, common_steps, passing)
