use Rattle.std.proofs.Common.{◌+◌}
use Rattle.meaning_areas.specs.Full.{draw_full}
use Rattle.sys_core.proofs.Beginning.{left-is}
use Rattle.sys_core.proofs.Restored.{never-left, restore-full}
use Rattle.sys_core.proofs.engine.Engine.restore_by.Goals as goal

pub restore_as-requires-clause-left : goal.restore_as-requires-clause-left
restore_as-requires-clause-left g c = left-is (draw_full (c.args.self.now.owners.store.drawn + 1)) c.in-Ok.ensures.full

pub restore_as-requires-clause-number : goal.restore_as-requires-clause-number
restore_as-requires-clause-number g c = c.in-Ok.ensures.value

pub returns-in-Ok-clause-spelled : goal.returns-in-Ok-clause-spelled
returns-in-Ok-clause-spelled g c kept first s t can left = c.restore_as.ensures.spelled kept first s t can

pub returns-in-Err-clause-steps : goal.returns-in-Err-clause-steps
returns-in-Err-clause-steps g c first s t can =
    let O = g.B.Bench.outside in
    restore-full first c.args.self.now s t c.args.plan can c.in-Err.fault c.from.result c.in-Err.ensures.full c.from.ensures (O c.args.bench.now)
    (λ js ws vs fault. c.calls_follow_one_another.ensures.stop js js ws vs fault c.args.bench.now c.args.bench.now)

pub returns-in-Err-clause-spelled : goal.returns-in-Err-clause-spelled
returns-in-Err-clause-spelled g c kept first s t can left = absurd (never-left first c.args.self.now s t c.args.plan can c.in-Err.fault c.from.result c.in-Err.ensures.full c.from.ensures left)
