use Rattle.std.proofs.Common.{◌+◌, drop, sym, ◌∙◌}
use Rattle.sys_core.proofs.Refusals.{gives-here, gives-more, item-here}
use Rattle.sys_core.proofs.engine.Engine.gives_refusal.Goals as goal

pub returns-in-Some : goal.returns-in-Some
returns-in-Some c =
    let g = c.give-item.result in
    gives-here c.args.self.now c.args.tx c.args.gives.now (drop c.loop-give.give-index c.args.gives.now) (drop (c.loop-give.give-index + 1) c.args.gives.now) g
    (item-here c.as_slice-give-items.result.now c.args.gives.now c.loop-give.give-index g c.as_slice-give-items.ensures c.loop-give-test.true c.give-item.is)
    c.loop-give.invariant c.in-Some.refusal (sym c.in-Some.is ∙ c.in_ok-refusal.ensures)

pub loop-give-preserved : goal.loop-give-preserved
loop-give-preserved c =
    let g = c.give-item.result in
    gives-more c.args.self.now c.args.tx c.args.gives.now (drop c.loop-give.give-index c.args.gives.now) (drop (c.loop-give.give-index + 1) c.args.gives.now) g
    (item-here c.as_slice-give-items.result.now c.args.gives.now c.loop-give.give-index g c.as_slice-give-items.ensures c.loop-give-test.true c.give-item.is)
    c.loop-give.invariant (sym c.in_default.is ∙ c.in_ok-refusal.ensures)
