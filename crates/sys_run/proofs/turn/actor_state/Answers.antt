use Rattle.std.proofs.Common.{arith}
use Rattle.std.proofs.lemmas.Grind.{common_steps}
use Rattle.sys_run.proofs.turn.actor_state.Goals as goal

pub returns-in-Session : goal.returns-in-Session
returns-in-Session c = grind (arith, common_steps)

pub returns-in_ok-last_of-in-File-ReadOf : goal.returns-in_ok-last_of-in-File-ReadOf
returns-in_ok-last_of-in-File-ReadOf c = grind (arith, common_steps)

pub returns-in_default : goal.returns-in_default
returns-in_default c = grind (arith, common_steps)
