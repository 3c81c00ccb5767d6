use Rattle.meaning_system.proofs.Cores.{stored-core, recovers}
use Rattle.meaning_system.proofs.laws.a_state_and_its_core_have_one_stored_part.Goals as goal

pub returns-clause-same : goal.returns-clause-same
returns-clause-same c = stored-core

pub returns-clause-stand : goal.returns-clause-stand
returns-clause-stand c = recovers
