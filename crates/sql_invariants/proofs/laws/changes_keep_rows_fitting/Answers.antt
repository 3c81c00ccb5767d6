use Rattle.sql_invariants.proofs.Whole.{kept_rows_fitting}
use Rattle.sql_invariants.proofs.laws.changes_keep_rows_fitting.Goals as goal

pub returns : goal.returns
returns c tables stmt context k after fit is = kept_rows_fitting c.values_are_of_the_type.ensures tables stmt context k after fit is
