use Rattle.std.proofs.Common.{arith}
use Rattle.std.proofs.lemmas.Grind.{common_steps}
use Rattle.fs_files.proofs.table.renew.Goals as goal

pub returns-in-Some-clause-room : goal.returns-in-Some-clause-room
returns-in-Some-clause-room c = grind (arith, common_steps)

pub returns-in-Some-clause-others : goal.returns-in-Some-clause-others
returns-in-Some-clause-others c = grind (arith, common_steps)

pub returns-in-None-clause-room : goal.returns-in-None-clause-room
returns-in-None-clause-room c = grind (arith, common_steps)

pub returns-in-Some-clause-entry : goal.returns-in-Some-clause-entry
returns-in-Some-clause-entry c = grind (arith, common_steps)
