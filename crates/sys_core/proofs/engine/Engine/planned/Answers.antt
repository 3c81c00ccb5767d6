use Rattle.std.proofs.Common.{◌∙◌}
use Rattle.sys_core.proofs.BackingUp.{unfinished-is}
use Rattle.sys_core.proofs.Restored.{has-owned}
use Rattle.sys_core.proofs.engine.Engine.planned.Goals as goal

pub returns : goal.returns
returns c first s is =
    let w = c.args.self.now in
    c.plan.ensures s (has-owned first w s c.files.result.now c.copies.result.now c.unfinished.result is c.files.ensures c.copies.ensures (c.unfinished.ensures ∙ unfinished-is s w.seats is.seats))
