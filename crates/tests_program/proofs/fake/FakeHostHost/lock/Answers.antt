use Rattle.std.proofs.Common.{[]}
use Rattle.tests_program.proofs.Short.{says_idle}
use Rattle.tests_program.proofs.fake.FakeHostHost.lock.Goals as goal

pub returns-in_err-begin-clause-crash : goal.returns-in_err-begin-clause-crash
returns-in_err-begin-clause-crash c = says_idle _ _ c.begin.ensures.bench _ _ c.begin.ensures.later []
