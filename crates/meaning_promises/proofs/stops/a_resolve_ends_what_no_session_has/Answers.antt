use Rattle.meaning_promises.proofs.Resolving.{counts, none-left, sessions-keep}
use Rattle.meaning_promises.proofs.stops.a_resolve_ends_what_no_session_has.Goals as goal

pub returns-clause-sessions : goal.returns-clause-sessions
returns-clause-sessions c = sessions-keep

pub returns-clause-counts : goal.returns-clause-counts
returns-clause-counts c = counts

pub returns-clause-left : goal.returns-clause-left
returns-clause-left c = none-left
