use Rattle.std.proofs.Common.{arith}
use Rattle.tests_program.proofs.Short.{says_idle, says_short}
use Rattle.tests_program.proofs.fake.FakeHostHost.tell.Goals as goal

pub returns-in_err-begin-clause-crash : goal.returns-in_err-begin-clause-crash
returns-in_err-begin-clause-crash c = says_idle _ _ c.begin.ensures.bench _ _ c.begin.ensures.later c.args.bytes.now

pub returns-in-Ok-clause-crash : goal.returns-in-Ok-clause-crash
returns-in-Ok-clause-crash c = says_short _ _ _ _ c.begin.ensures.bench c.end_part.ensures.bench _ _ (omega (arith, c.begin.ensures.later, c.end_part.ensures.later)) c.min-count.result c.args.bytes.now c.say.ensures.crash

pub returns-in-Err-clause-crash : goal.returns-in-Err-clause-crash
returns-in-Err-clause-crash c = says_short _ _ _ _ c.begin.ensures.bench c.failed.ensures.bench _ _ (omega (arith, c.begin.ensures.later, c.failed.ensures.later)) c.min-count.result c.args.bytes.now c.say.ensures.crash
