use Rattle.std.proofs.Common.{length, take, sym, ◌∙◌, ap}
use Rattle.dl_bench.specs.Contents.{Content, content_step}
use Rattle.dl_bench.specs.Laws.{good_after}
use Rattle.dl_bench.proofs.Contents.{content_more}
use Rattle.dl_bench.proofs.space.Space.after.Goals as goal

pub step-requires : goal.step-requires
step-requires c =
    let is = c.loop-event.invariant in
    ap (λ (x : Content). length x.torn) is ∙ (good_after (take c.loop-event.event-index c.args.events.now) c.args.area).same ∙ sym (ap (λ (x : Content). length x.kept) is)

pub loop-event-preserved : goal.loop-event-preserved
loop-event-preserved c =
    c.in_ok-step.ensures
    ∙ ap (λ (x : Content). content_step c.args.area c.event-item.result x) c.loop-event.invariant
    ∙ sym (content_more c.args.area c.args.events.now c.loop-event.event-index c.event-item.result c.loop-event-test.true c.event-item.is)
