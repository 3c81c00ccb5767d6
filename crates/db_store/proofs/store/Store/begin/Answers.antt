use Rattle.std.proofs.Common.{arith, rules}
use Rattle.std.proofs.lemmas.Grind.{common_steps}
use Rattle.db_store.proofs.store.Store.begin.Goals as goal

pub returns-clause-memory : goal.returns-clause-memory
returns-clause-memory g c = grind (arith, common_steps)

pub returns-clause-device : goal.returns-clause-device
returns-clause-device g c = grind (arith, common_steps)

pub returns-clause-no_rows : goal.returns-clause-no_rows
returns-clause-no_rows g c = grind (arith, common_steps)

pub returns-in_err-journal-clause-no_rows : goal.returns-in_err-journal-clause-no_rows
returns-in_err-journal-clause-no_rows g c = grind (arith, common_steps)

pub returns-clause-untouched : goal.returns-clause-untouched
returns-clause-untouched g c = grind (arith, common_steps)

pub returns-clause-opened : goal.returns-clause-opened
returns-clause-opened g c = (c.in_ok-journal.bodies, search rules, search rules)
