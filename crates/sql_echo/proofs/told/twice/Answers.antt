use Rattle.std.proofs.Common.{◌∙◌}
use Rattle.sql_echo.proofs.Twice.{same_ok, same_err}
use Rattle.sql_echo.proofs.told.twice.Goals as goal

pub returns-in-Ok : goal.returns-in-Ok
returns-in-Ok c = λ text means. same_ok c.bytes.result.now c.args.stmt.now c.in-Ok.again c.print-in-Ok.result (c.print_again.ensures text c.args.stmt.now means) (c.bytes.ensures ∙ c.in_ok-once.ensures) c.in-Ok.ensures.only c.print-in-Ok.ensures

pub returns : goal.returns
returns c = λ text means. same_err c.bytes.result.now c.args.stmt.now c.in-Err.fault c.fault_text.result (c.print_again.ensures text c.args.stmt.now means) (c.bytes.ensures ∙ c.in_ok-once.ensures) c.in-Err.ensures.only c.fault_text.ensures
