use Rattle.sql_invariants.proofs.Ordering.{none_ordered}
use Rattle.sql_invariants.proofs.laws.no_tables_fit.Goals as goal

pub returns-clause-ordered : goal.returns-clause-ordered
returns-clause-ordered c = none_ordered
