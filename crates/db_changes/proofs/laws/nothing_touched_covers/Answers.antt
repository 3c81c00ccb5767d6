use Rattle.db_changes.proofs.Covering.{covers-itself}
use Rattle.db_changes.proofs.laws.nothing_touched_covers.Goals as goal

pub returns : goal.returns
returns c = covers-itself
