use Rattle.sys_core.proofs.Others.{others-left}
use Rattle.sys_core.proofs.Separate.{separate-kept, start-separate}
use Rattle.sys_core.proofs.laws.steps_leave_other_sessions.Goals as goal

pub returns-clause-others : goal.returns-clause-others
returns-clause-others c = others-left

pub returns-clause-kept : goal.returns-clause-kept
returns-clause-kept c = separate-kept

pub returns-clause-begin : goal.returns-clause-begin
returns-clause-begin c = start-separate
