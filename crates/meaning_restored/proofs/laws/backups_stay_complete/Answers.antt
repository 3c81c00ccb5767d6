use Rattle.meaning_restored.proofs.Complete.{complete}
use Rattle.meaning_restored.proofs.Kept.{complete-kept}
use Rattle.meaning_restored.proofs.laws.backups_stay_complete.Goals as goal

pub returns-clause-complete : goal.returns-clause-complete
returns-clause-complete c = complete

pub returns-clause-kept : goal.returns-clause-kept
returns-clause-kept c = complete-kept
