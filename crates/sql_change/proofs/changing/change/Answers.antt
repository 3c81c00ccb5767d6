use Rattle.sql_change.proofs.Fitting.{rows_kept}
use Rattle.sql_change.proofs.changing.change.Goals as goal

pub returns-clause-rows : goal.returns-clause-rows
returns-clause-rows c =
    rows_kept c.changes_keep_rows_fitting.ensures c.args.tables.now c.carried_out.new.tables c.args.stmt.now c.args.context.now c.args.next_link.now c.carried_out.new.next_link c.carried_out.result c.requires.rows c.carried_out.ensures.ok c.carried_out.ensures.unchanged
