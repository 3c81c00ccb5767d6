use Rattle.sys_records.proofs.Roomy.{room-manager, room-same, roomier-copies}
use Rattle.sys_core.proofs.engine.Engine.make_copy_room.Goals as goal

pub returns-in_err-copies-clause-more : goal.returns-in_err-copies-clause-more
returns-in_err-copies-clause-more c = room-same c.args.self.now.owners

pub returns-clause-more : goal.returns-clause-more
returns-clause-more c =
    let w = c.args.self.now.owners in
    room-manager w c.make_room.new.self (roomier-copies w.manager c.make_room.new.self c.make_room.ensures.same c.make_room.ensures.spare)
