use Rattle.std.proofs.Common.{arith}
use Rattle.std.proofs.lemmas.Grind.{common_steps}
use Rattle.dl_codec.specs.Layout.{times}
use Rattle.dl_codec.proofs.Loop.{goes_on}
use Rattle.dl_codec.proofs.spelled.items_of.Goals as goal

pub loop-preserved : goal.loop-preserved
loop-preserved g c =
    let read = g.T.Spelled.layout.reading in
    rw c.in_ok-push.ensures.ok (goes_on read c.loop.items c.args.count c.loop.counter c.loop.rest.now c.in_ok-item.item c.in_ok-item.after.now (times read c.args.count c.args.bytes.now) c.loop-test.true c.in_ok-item.ensures c.loop.invariant)

pub loop-init : goal.loop-init
loop-init g c = grind (arith, common_steps)

pub returns : goal.returns
returns g c = grind (arith, common_steps)
