use Rattle.dl_base.specs.declared.step.Step.TheVariants as steps
use Rattle.sys_core.proofs.Stored.{can-store, no-room, room-ready}
use Rattle.sys_core.proofs.Stepped.{steps-over}
use Rattle.sys_owners.specs.Owned.{journals_of}
use Rattle.sys_records.proofs.Roomy.{room-journals}
use Rattle.sys_core.proofs.engine.Engine.store_copy.Goals as goal

pub put_copy-requires-clause-ready : goal.put_copy-requires-clause-ready
put_copy-requires-clause-ready g c = room-ready c.args.self.now.owners c.make_copy_room.new.self.owners (g.B.Bench.outside c.args.bench.now) c.make_copy_room.ensures.more c.requires.ready

pub put_copy-requires-clause-stands : goal.put_copy-requires-clause-stands
put_copy-requires-clause-stands g c =
    let n = c.requires.stands in
    let e = c.make_copy_room.ensures in
    (n.0, n.1, n.2, can-store n.0 c.args.self.now n.1 n.2 c.args.copy c.make_copy_room.new.self n.3 n.4 e.same e.more c.in-Ok.ensures.room)

pub returns-in-Ok-clause-steps : goal.returns-in-Ok-clause-steps
returns-in-Ok-clause-steps g c first s n is waits =
    let O = g.B.Bench.outside in
    let w = c.args.self.now in
    let k = c.make_copy_room.new.self in
    let e = c.make_copy_room.ensures in
    steps-over first (steps.Archive n) s w k c.put_copy.new.self c.put_copy.result (O c.args.bench.now) (O c.put_copy.new.bench) (room-journals w.owners k.owners e.more)
    (c.put_copy.ensures.steps first s n (can-store first w s n c.args.copy k is waits e.same e.more c.in-Ok.ensures.room))

pub returns-in-Ok-clause-spelled : goal.returns-in-Ok-clause-spelled
returns-in-Ok-clause-spelled g c kept first s n is waits =
    let e = c.make_copy_room.ensures in
    c.put_copy.ensures.spelled first s n (can-store first c.args.self.now s n c.args.copy c.make_copy_room.new.self is waits e.same e.more c.in-Ok.ensures.room)

pub returns-in-Err-clause-steps : goal.returns-in-Err-clause-steps
returns-in-Err-clause-steps g c first s n is waits =
    let w = c.args.self.now in
    let e = c.make_copy_room.ensures in
    no-room first w c.make_copy_room.new.self s (steps.Archive n) (g.B.Bench.outside c.args.bench.now) is e.same e.more (c.calls_follow_one_another.ensures.none (journals_of w.owners) c.args.bench.now)
