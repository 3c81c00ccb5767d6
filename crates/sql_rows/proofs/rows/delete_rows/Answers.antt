use Rattle.sql_rows.proofs.Alone.{left_nothing, nothing_left}
use Rattle.sql_rows.proofs.rows.delete_rows.Goals as goal

pub returns-in-Nothing-clause-rows : goal.returns-in-Nothing-clause-rows
returns-in-Nothing-clause-rows c =
    let t = c.args.table.now in
    nothing_left c.args.columns.now c.args.context.now c.args.filter.now t (left_nothing c.args.columns.now c.args.filter.now t c.in_ok-rows_asked.field-0 c.in-Nothing.is c.in_ok-rows_asked.ensures.passed) c.untouched.result c.untouched.ensures
