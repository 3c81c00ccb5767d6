use Rattle.db_changes.proofs.Covering.{covers-change, covers-more}
use Rattle.db_changes.proofs.laws.touched_rows_cover_a_change.Goals as goal

pub returns-clause-changed : goal.returns-clause-changed
returns-clause-changed c = covers-change

pub returns-clause-more : goal.returns-clause-more
returns-clause-more c = covers-more
