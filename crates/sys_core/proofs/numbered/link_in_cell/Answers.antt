use Rattle.std.proofs.Common.{arith}
use Rattle.std.proofs.lemmas.Grind.{common_steps}
use Rattle.sys_core.proofs.numbered.link_in_cell.Goals as goal

pub returns-in-Link : goal.returns-in-Link
returns-in-Link c = grind (arith, common_steps)
