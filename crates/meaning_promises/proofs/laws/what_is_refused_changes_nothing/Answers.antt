use Rattle.meaning_promises.proofs.Refused.{decide-refused, refused-leaves, statement-refused}
use Rattle.meaning_promises.proofs.laws.what_is_refused_changes_nothing.Goals as goal

pub returns-clause-others : goal.returns-clause-others
returns-clause-others c = refused-leaves

pub returns-clause-statements : goal.returns-clause-statements
returns-clause-statements c = statement-refused

pub returns-clause-decisions : goal.returns-clause-decisions
returns-clause-decisions c = decide-refused
