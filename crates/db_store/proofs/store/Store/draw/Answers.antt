use Rattle.std.proofs.Common.{arith}
use Rattle.db_store.proofs.Numbers.{draw_fits, draw_ends}
use Rattle.db_store.proofs.store.Store.draw.Goals as goal

pub returns-clause-ok : goal.returns-clause-ok
returns-clause-ok c = grind (arith, draw_fits, draw_ends)
