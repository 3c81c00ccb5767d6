use Rattle.meaning_areas.proofs.Append.{append-committed, append-ended, append-aborted}
use Rattle.meaning_areas.proofs.NextRecord.{next-stays}
use Rattle.meaning_areas.proofs.laws.one_more_record_changes_nothing.Goals as goal

pub returns-clause-committed : goal.returns-clause-committed
returns-clause-committed c f s tx m stand is at = (_, append-committed f s stand tx m is at)

pub returns-clause-next : goal.returns-clause-next
returns-clause-next c f s tx m stand is at = next-stays f s stand tx m is at

pub returns-clause-ended : goal.returns-clause-ended
returns-clause-ended c f s tx m d stand is has at once = (_, append-ended f s stand tx m d is has at once)

pub returns-clause-aborted : goal.returns-clause-aborted
returns-clause-aborted c f s tx m stand none at = (_, append-aborted f s stand tx m none at)
