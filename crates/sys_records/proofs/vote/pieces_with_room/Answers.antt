use Rattle.std.proofs.Common.{arith}
use Rattle.std.proofs.lemmas.Grind.{common_steps}
use Rattle.sys_records.proofs.Roomy.{room-manager, room-then}
use Rattle.sys_records.proofs.vote.pieces_with_room.Goals as goal

pub returns-in_err-pieces-clause-same : goal.returns-in_err-pieces-clause-same
returns-in_err-pieces-clause-same c = room-manager c.args.owners.now c.pieces_of.new.manager c.pieces_of.ensures.same

pub returns-in-Err-clause-same : goal.returns-in-Err-clause-same
returns-in-Err-clause-same c = room-then c.args.owners.now c.pieces_of.new.manager c.make_room.new.owners c.pieces_of.ensures.same c.make_room.ensures.same

pub returns-in-Ok-clause-same : goal.returns-in-Ok-clause-same
returns-in-Ok-clause-same c = room-then c.args.owners.now c.pieces_of.new.manager c.make_room.new.owners c.pieces_of.ensures.same c.make_room.ensures.same

pub returns-in-Ok-clause-copies : goal.returns-in-Ok-clause-copies
returns-in-Ok-clause-copies c = grind (arith, common_steps)

pub returns-in-Ok-clause-commits : goal.returns-in-Ok-clause-commits
returns-in-Ok-clause-commits c = grind (arith, common_steps)
