use Rattle.sql_shell.proofs.Telling.{of_answer}
use Rattle.sql_shell.proofs.told.told.Goals as goal

pub returns-clause-exact : goal.returns-clause-exact
returns-clause-exact c = of_answer c.args.tables.now c.answer.new.tables c.args.context.now c.args.number c.args.line.now c.in_ok-answer.answer c.printed.result c.in_ok-answer.ensures.exact c.printed.ensures
