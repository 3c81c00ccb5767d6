use Rattle.sys_run.proofs.Restoring.{restore-spelled}
use Rattle.sys_run.proofs.step.restore.Goals as goal

pub restore-requires-clause-stands : goal.restore-requires-clause-stands
restore-requires-clause-stands g c =
    let (first, s, is, shown) = c.requires.stands in
    (first, s, is, c.first_busy-busy.ensures s shown)

pub returns-clause-steps : goal.returns-clause-steps
returns-clause-steps g c first s is shown = c.restore.ensures.steps first s is (c.first_busy-busy.ensures s shown)

pub returns-clause-spelled : goal.returns-clause-spelled
returns-clause-spelled g c kept first s is shown none = restore-spelled s c.args.target none (c.restore.ensures.spelled kept first s is (c.first_busy-busy.ensures s shown))
