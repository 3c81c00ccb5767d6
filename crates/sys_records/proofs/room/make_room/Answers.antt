use Rattle.std.proofs.Common.{arith}
use Rattle.std.proofs.lemmas.Grind.{common_steps}
use Rattle.sys_records.proofs.Roomy.{room-made, roomier-copies}
use Rattle.sys_records.proofs.room.make_room.Goals as goal

pub returns-clause-same : goal.returns-clause-same
returns-clause-same c =
    let w = c.args.owners.now in
    room-made w c.make_room.new.self c.make_room-2.new.self c.make_room.ensures.same c.make_room.ensures.spare
    (roomier-copies w.manager c.make_room-2.new.self c.make_room-2.ensures.same c.make_room-2.ensures.spare)

pub returns-clause-copies : goal.returns-clause-copies
returns-clause-copies c = grind (arith, common_steps)

pub returns-clause-commits : goal.returns-clause-commits
returns-clause-commits c = grind (arith, common_steps)
