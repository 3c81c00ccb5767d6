use Rattle.meaning_promises.proofs.Promised.{decision-all, decision-whose}
use Rattle.meaning_promises.proofs.laws.a_decision_is_one_commit.Goals as goal

pub returns-clause-all : goal.returns-clause-all
returns-clause-all c = decision-all

pub returns-clause-whose : goal.returns-clause-whose
returns-clause-whose c = decision-whose
