use Rattle.std.proofs.Common.{arith}
use Rattle.std.proofs.lemmas.Grind.{common_steps}
use Rattle.fs_files.proofs.store.Files.test_write.Goals as goal

pub returns-in-Some-2-clause-accepted : goal.returns-in-Some-2-clause-accepted
returns-in-Some-2-clause-accepted c = grind (arith, common_steps)

pub returns-in-None-2-clause-value : goal.returns-in-None-2-clause-value
returns-in-None-2-clause-value c = grind (arith, common_steps)

pub returns-in-None-2-clause-accepted : goal.returns-in-None-2-clause-accepted
returns-in-None-2-clause-accepted c = grind (arith, common_steps)
