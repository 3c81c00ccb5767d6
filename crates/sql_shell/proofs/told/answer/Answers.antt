use Rattle.sql_shell.proofs.Telling.{of_fault}
use Rattle.sql_shell.proofs.told.answer.Goals as goal

pub returns-in-Err-clause-exact : goal.returns-in-Err-clause-exact
returns-in-Err-clause-exact c = of_fault c.args.tables.now c.args.context.now c.args.line.now c.in-Err.fault c.answer_of_fault.result c.in-Err.ensures.exact c.answer_of_fault.ensures.answer
