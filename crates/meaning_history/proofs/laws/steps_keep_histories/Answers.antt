use Rattle.meaning_history.proofs.Keeping.{history-kept, history-start}
use Rattle.meaning_history.proofs.laws.steps_keep_histories.Goals as goal

pub returns-clause-start : goal.returns-clause-start
returns-clause-start c = history-start

pub returns-clause-kept : goal.returns-clause-kept
returns-clause-kept c = history-kept c.a_history_goes_on.ensures.stated
