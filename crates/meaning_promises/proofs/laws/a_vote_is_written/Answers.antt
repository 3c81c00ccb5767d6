use Rattle.meaning_promises.proofs.Promised.{vote-all, vote-linked, vote-plain, vote-refused, vote-whose}
use Rattle.meaning_promises.proofs.laws.a_vote_is_written.Goals as goal

pub returns-clause-all : goal.returns-clause-all
returns-clause-all c = vote-all

pub returns-clause-linked : goal.returns-clause-linked
returns-clause-linked c = vote-linked

pub returns-clause-plain : goal.returns-clause-plain
returns-clause-plain c = vote-plain

pub returns-clause-refused : goal.returns-clause-refused
returns-clause-refused c = vote-refused

pub returns-clause-whose : goal.returns-clause-whose
returns-clause-whose c = vote-whose
