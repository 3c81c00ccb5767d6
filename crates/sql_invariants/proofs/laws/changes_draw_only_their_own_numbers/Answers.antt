use Rattle.sql_invariants.proofs.Whole.{others_free}
use Rattle.sql_invariants.proofs.laws.changes_draw_only_their_own_numbers.Goals as goal

pub returns : goal.returns
returns c tables stmt context k after tx first is other free = others_free tables stmt context k after tx first is other free
