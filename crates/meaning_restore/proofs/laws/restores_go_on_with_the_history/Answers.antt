use Rattle.meaning_restore.proofs.Owed.{all-owed}
use Rattle.meaning_restore.proofs.laws.restores_go_on_with_the_history.Goals as goal

pub returns : goal.returns
returns c first f s sound t = all-owed first f s sound t
