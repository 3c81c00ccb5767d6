use Rattle.std.proofs.Common.{arith}
use Rattle.std.proofs.lemmas.Grind.{common_steps}
use Rattle.db_replay.proofs.rows.change_row.Goals as goal

pub place_row-requires : goal.place_row-requires
place_row-requires c = grind (arith, common_steps)
