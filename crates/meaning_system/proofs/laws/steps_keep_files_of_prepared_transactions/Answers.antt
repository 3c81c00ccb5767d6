use Rattle.meaning_system.proofs.Holding.{files-kept}
use Rattle.meaning_system.proofs.laws.steps_keep_files_of_prepared_transactions.Goals as goal

pub returns : goal.returns
returns c = files-kept
