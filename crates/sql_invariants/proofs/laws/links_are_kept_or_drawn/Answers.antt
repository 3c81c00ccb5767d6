use Rattle.sql_invariants.proofs.Whole.{kept_or_drawn}
use Rattle.sql_invariants.proofs.laws.links_are_kept_or_drawn.Goals as goal

pub returns : goal.returns
returns c tables stmt context k after is = kept_or_drawn tables stmt context k after is
