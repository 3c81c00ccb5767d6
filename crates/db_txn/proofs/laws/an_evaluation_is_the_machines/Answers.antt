use Rattle.db_txn.proofs.Machine.{the_machines}
use Rattle.db_txn.proofs.laws.an_evaluation_is_the_machines.Goals as goal

pub returns : goal.returns
returns c = the_machines
