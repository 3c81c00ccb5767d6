use Rattle.tests_program.proofs.Short.{touches_idle}
use Rattle.tests_program.proofs.fake.FakeHostHost.open.Goals as goal

pub returns-in_err-begin-clause-crash : goal.returns-in_err-begin-clause-crash
returns-in_err-begin-clause-crash c = touches_idle _ _ c.begin.ensures.bench _ _ c.begin.ensures.later c.args.area
