use Rattle.std.proofs.Common.{refl, arith}
use Rattle.tests_program.proofs.Short.{touches_idle, touches_done}
use Rattle.tests_program.proofs.fake.FakeHostHost.sync.Goals as goal

pub returns-in_err-begin-clause-crash : goal.returns-in_err-begin-clause-crash
returns-in_err-begin-clause-crash c = touches_idle _ _ c.begin.ensures.bench _ _ c.begin.ensures.later c.args.file.now

pub returns-in-Ok-clause-crash : goal.returns-in-Ok-clause-crash
returns-in-Ok-clause-crash c = touches_done c.args.self.now.bench c.begin.new.self.bench c.sync.new.self c.sync.new.self c.begin.ensures.bench refl _ _ c.begin.ensures.later c.args.file.now c.sync.ensures.crash

pub returns-in-Err-clause-crash : goal.returns-in-Err-clause-crash
returns-in-Err-clause-crash c = touches_done _ _ _ _ c.begin.ensures.bench c.failed.ensures.bench _ _ (omega (arith, c.begin.ensures.later, c.failed.ensures.later)) c.args.file.now c.sync.ensures.crash
