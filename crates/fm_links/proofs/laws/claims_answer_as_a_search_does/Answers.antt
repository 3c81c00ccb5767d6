use Rattle.fm_links.proofs.Guarding.{forbidding-law, linked-law}
use Rattle.fm_links.proofs.Searching.{busy-law}
use Rattle.fm_links.proofs.laws.claims_answer_as_a_search_does.Goals as goal

pub returns-clause-busy : goal.returns-clause-busy
returns-clause-busy c = busy-law

pub returns-clause-forbidding : goal.returns-clause-forbidding
returns-clause-forbidding c = forbidding-law

pub returns-clause-linked : goal.returns-clause-linked
returns-clause-linked c = linked-law
