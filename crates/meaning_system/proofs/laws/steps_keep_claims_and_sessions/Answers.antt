use Rattle.meaning_system.proofs.Kept.{claims-kept, in-sessions-kept, sessions-kept, start-has}
use Rattle.meaning_system.proofs.laws.steps_keep_claims_and_sessions.Goals as goal

pub returns-clause-claims : goal.returns-clause-claims
returns-clause-claims c = claims-kept

pub returns-clause-sessions : goal.returns-clause-sessions
returns-clause-sessions c = sessions-kept

pub returns-clause-start : goal.returns-clause-start
returns-clause-start c = start-has

pub returns-clause-active : goal.returns-clause-active
returns-clause-active c = in-sessions-kept
