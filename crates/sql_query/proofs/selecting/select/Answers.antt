use Rattle.std.proofs.Common.{◌∙◌}
use Rattle.sql_query.proofs.Whole.{select-is}
use Rattle.sql_query.proofs.selecting.select.Goals as goal

pub returns-in-Ok : goal.returns-in-Ok
returns-in-Ok c = select-is c.args.tables.now c.args.query.now c.args.context.now ∙ c.in-Ok.ensures

pub returns-in-Err : goal.returns-in-Err
returns-in-Err c = λ h. select-is c.args.tables.now c.args.query.now c.args.context.now ∙ c.in-Err.ensures h
