use Rattle.sql_invariants.proofs.Ordered.{kept_ordered}
use Rattle.sql_invariants.proofs.laws.changes_keep_tables_ordered.Goals as goal

pub returns : goal.returns
returns c tables stmt context k after ordered is = kept_ordered tables stmt context k after ordered is
