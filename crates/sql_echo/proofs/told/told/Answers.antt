use Rattle.sql_echo.proofs.Twice.{told_ok}
use Rattle.sql_echo.proofs.told.told.Goals as goal

pub returns-in-Ok : goal.returns-in-Ok
returns-in-Ok c = told_ok c.args.text.now c.in-Ok.stmt c.twice.result c.in-Ok.ensures.exact c.twice.ensures
