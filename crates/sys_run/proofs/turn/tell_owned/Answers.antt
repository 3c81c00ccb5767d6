use Rattle.std.proofs.Common.{arith}
use Rattle.std.proofs.lemmas.Grind.{common_steps}
use Rattle.sys_run.proofs.turn.tell_owned.Goals as goal

pub returns-clause-not_full : goal.returns-clause-not_full
returns-clause-not_full g c = grind (arith, common_steps)
