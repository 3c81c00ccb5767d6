use Rattle.std.proofs.Common.{arith}
use Rattle.fm_manager.proofs.Folding.{is-batch}
use Rattle.fm_manager.proofs.manager.Manager.batch.Goals as goal

pub returns-clause-batch : goal.returns-clause-batch
returns-clause-batch c = is-batch c.args.tx c.args.changes c.in_ok-made.field-0 c.in_ok-made.ensures.value (omega (arith, c.if-len-eq0.false, c.len.ensures))
