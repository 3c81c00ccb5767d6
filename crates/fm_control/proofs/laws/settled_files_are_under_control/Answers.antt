use Rattle.fm_control.proofs.Settled.{begins-controlled, committed-alone}
use Rattle.fm_control.proofs.laws.settled_files_are_under_control.Goals as goal

pub returns-clause-committed : goal.returns-clause-committed
returns-clause-committed c = committed-alone

pub returns-clause-controlled : goal.returns-clause-controlled
returns-clause-controlled c = begins-controlled
