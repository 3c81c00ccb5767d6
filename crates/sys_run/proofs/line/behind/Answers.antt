use Rattle.sys_run.proofs.Pacing.{rest-behind}
use Rattle.sys_run.proofs.line.behind.Goals as goal

pub returns : goal.returns
returns c = rest-behind c.args.count c.min.result c.args.waiting.now c.min.ensures
