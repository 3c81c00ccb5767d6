use Rattle.meaning_system.proofs.Fitting.{fits-kept, fits-numbers}
use Rattle.meaning_system.proofs.laws.steps_keep_tables_fitting.Goals as goal

pub returns-clause-kept : goal.returns-clause-kept
returns-clause-kept c = fits-kept

pub returns-clause-numbers : goal.returns-clause-numbers
returns-clause-numbers c = fits-numbers
