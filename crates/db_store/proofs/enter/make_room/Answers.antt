use Rattle.std.proofs.Common.{arith}
use Rattle.std.proofs.lemmas.Grind.{common_steps}
use Rattle.db_store.proofs.enter.make_room.Goals as goal

pub returns-clause-room_log : goal.returns-clause-room_log
returns-clause-room_log c = grind (arith, common_steps)

pub returns-clause-room_ended : goal.returns-clause-room_ended
returns-clause-room_ended c = grind (arith, common_steps)

pub returns-clause-room_tables : goal.returns-clause-room_tables
returns-clause-room_tables c = grind (arith, common_steps)
