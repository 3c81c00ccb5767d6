use Rattle.std.proofs.Common.{refl}
use Rattle.dl_base.specs.declared.step.Step.TheVariants as steps
use Rattle.sys_core.proofs.Restored.{can-put-back, plan-last}
use Rattle.sys_core.proofs.Stepped.{steps-over}
use Rattle.sys_core.proofs.Stored.{no-room, room-ready}
use Rattle.sys_owners.specs.Owned.{journals_of}
use Rattle.sys_records.proofs.Roomy.{room-journals}
use Rattle.sys_core.proofs.engine.Engine.restore_as.Goals as goal

pub make_restoration-requires : goal.make_restoration-requires
make_restoration-requires g c =
    let n = c.requires.stands in
    plan-last n.0 c.args.self.now n.1 n.2 c.args.plan n.3

pub put_back-requires-clause-ready : goal.put_back-requires-clause-ready
put_back-requires-clause-ready g c = room-ready c.args.self.now.owners c.make_restoration.new.owners (g.B.Bench.outside c.args.bench.now) c.make_restoration.ensures.same c.requires.ready

pub put_back-requires-clause-stands : goal.put_back-requires-clause-stands
put_back-requires-clause-stands g c =
    let n = c.requires.stands in
    let e = c.in-Ok.ensures in (
      n.0,
      n.1,
      n.2,
      c.args.plan,
      can-put-back n.0 c.args.self.now n.1 n.2 c.args.plan c.make_restoration.new.owners c.in-Ok.made c.args.tx e.same n.3 c.requires.left c.requires.number e.made e.commits e.copies,
    )

pub returns-in-Ok-clause-steps : goal.returns-in-Ok-clause-steps
returns-in-Ok-clause-steps g c first s t can =
    let O = g.B.Bench.outside in
    let w = c.args.self.now in
    let u = c.make_restoration.new.owners in
    let e = c.in-Ok.ensures in
    steps-over first (steps.Restore t) s w (record w { owners = u }) c.put_back.new.self c.put_back.result (O c.args.bench.now) (O c.put_back.new.bench) (room-journals w.owners u e.same)
    (c.put_back.ensures.steps first s t c.args.plan (can-put-back first w s t c.args.plan u c.in-Ok.made c.args.tx e.same can c.requires.left c.requires.number e.made e.commits e.copies))

pub returns-in-Ok-clause-spelled : goal.returns-in-Ok-clause-spelled
returns-in-Ok-clause-spelled g c kept first s t can =
    let u = c.make_restoration.new.owners in
    let e = c.in-Ok.ensures in
    c.put_back.ensures.spelled kept first s t c.args.plan (can-put-back first c.args.self.now s t c.args.plan u c.in-Ok.made c.args.tx e.same can c.requires.left c.requires.number e.made e.commits e.copies)

pub returns-in-Err-clause-steps : goal.returns-in-Err-clause-steps
returns-in-Err-clause-steps g c first s t can =
    let w = c.args.self.now in
    let u = c.make_restoration.new.owners in
    no-room first w (record w { owners = u }) s (steps.Restore t) (g.B.Bench.outside c.args.bench.now) can.state refl c.make_restoration.ensures.same (c.calls_follow_one_another.ensures.none (journals_of w.owners) c.args.bench.now)
