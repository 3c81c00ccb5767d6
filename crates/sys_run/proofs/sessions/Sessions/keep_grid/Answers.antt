use Rattle.std.proofs.Common.{arith}
use Rattle.std.proofs.lemmas.Grind.{common_steps}
use Rattle.sys_run.proofs.sessions.Sessions.keep_grid.Goals as goal

pub returns-in_ok-text-in-Session-Rows-clause-grids : goal.returns-in_ok-text-in-Session-Rows-clause-grids
returns-in_ok-text-in-Session-Rows-clause-grids c = grind (arith, common_steps)

pub returns-in_default-2 : goal.returns-in_default-2
returns-in_default-2 c = grind (arith, common_steps)

pub returns-in_default : goal.returns-in_default
returns-in_default c = grind (arith, common_steps)
