use Rattle.sys_core.proofs.Ticking.{ticks}
use Rattle.sys_core.proofs.engine.Engine.tick.Goals as goal

pub returns : goal.returns
returns c = record {
  steps = λ first s is. ticks c.each_step_leads_on.ensures.kept c.claims_behind_other_steps.ensures.tick first c.args.self.now s c.args.seconds is c.saturating_add-self.result c.saturating_add-self.ensures;
}
