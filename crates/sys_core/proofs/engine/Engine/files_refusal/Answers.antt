use Rattle.std.proofs.Common.{◌+◌, drop, refl, sym, ◌∙◌}
use Rattle.sys_core.proofs.Refusals.{item-here}
use Rattle.sys_core.proofs.Voting.{file-missing, file-there, files-there}
use Rattle.sys_core.proofs.engine.Engine.files_refusal.Goals as goal

pub loop-take-init : goal.loop-take-init
loop-take-init c s same = refl

pub loop-take-preserved : goal.loop-take-preserved
loop-take-preserved c s same =
    let d = c.take-item.result in
    let i = c.loop-take.take-index in
    file-there s c.args.self.now c.args.takes.now (drop i c.args.takes.now) (drop (i + 1) c.args.takes.now) d same
    (item-here c.as_slice-take-items.result.now c.args.takes.now i d c.as_slice-take-items.ensures c.loop-take-test.true c.take-item.is)
    (c.loop-take.invariant s same) (sym c.in_default.is ∙ c.in_ok-refusal.ensures)

pub returns-in-Some : goal.returns-in-Some
returns-in-Some c s same =
    let d = c.take-item.result in
    let i = c.loop-take.take-index in
    file-missing s c.args.self.now c.args.takes.now (drop i c.args.takes.now) (drop (i + 1) c.args.takes.now) d same
    (item-here c.as_slice-take-items.result.now c.args.takes.now i d c.as_slice-take-items.ensures c.loop-take-test.true c.take-item.is)
    (c.loop-take.invariant s same) c.in-Some.refusal (sym c.in-Some.is ∙ c.in_ok-refusal.ensures)

pub returns : goal.returns
returns c s same = files-there s c.as_slice-take-items.result.now c.args.takes.now c.loop-take.take-index c.as_slice-take-items.ensures c.loop-take-test.false (c.loop-take.invariant s same)
