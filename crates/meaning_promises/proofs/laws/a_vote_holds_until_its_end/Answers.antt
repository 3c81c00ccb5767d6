use Rattle.meaning_promises.proofs.Held.{held-linked, held-plain}
use Rattle.meaning_promises.proofs.Lasting.{decision-leaves, stays, vote-leaves}
use Rattle.meaning_promises.proofs.laws.a_vote_holds_until_its_end.Goals as goal

pub returns-clause-voted : goal.returns-clause-voted
returns-clause-voted c = vote-leaves

pub returns-clause-decided : goal.returns-clause-decided
returns-clause-decided c = decision-leaves

pub returns-clause-stays : goal.returns-clause-stays
returns-clause-stays c = stays

pub returns-clause-linked : goal.returns-clause-linked
returns-clause-linked c = held-linked

pub returns-clause-plain : goal.returns-clause-plain
returns-clause-plain c = held-plain
