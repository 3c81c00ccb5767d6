use Rattle.std.proofs.Common.{◌∙◌}
use Rattle.sys_core.proofs.Guarding.{forbids-found}
use Rattle.sys_core.proofs.engine.Engine.forbids.Goals as goal

pub returns : goal.returns
returns c first s is = c.forbidding.ensures ∙ forbids-found c.claims_answer_as_a_search_does.ensures.forbidding first c.args.self.now s is c.args.what.now
