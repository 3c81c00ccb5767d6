use Rattle.std.proofs.Common.{subst, sym}
use Rattle.db_changes.proofs.Numbers.{Held, held-none}
use Rattle.db_changes.proofs.touched.TouchedRows.empty.Goals as goal

pub invariant_of-result : goal.invariant_of-result
invariant_of-result c = subst Held (sym c.new.ensures.items) held-none
