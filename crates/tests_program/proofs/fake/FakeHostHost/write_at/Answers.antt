use Rattle.std.proofs.Common.{◌≤◌, length, take, arith}
use Rattle.std.proofs.lemmas.List.{length-take}
use Rattle.tests_program.proofs.Short.{writes_idle, writes_short}
use Rattle.tests_program.proofs.fake.FakeHostHost.write_at.Goals as goal

pub returns-in_err-begin-clause-crash : goal.returns-in_err-begin-clause-crash
returns-in_err-begin-clause-crash c = writes_idle _ _ c.begin.ensures.bench _ _ c.begin.ensures.later c.args.file.now c.args.at (length c.args.bytes.now)

pub returns-in-Ok-clause-crash : goal.returns-in-Ok-clause-crash
returns-in-Ok-clause-crash c =
    let k = c.min-count.result in
    let short : length (take k c.args.bytes.now) ≤ length c.args.bytes.now = omega (arith, length-take k c.args.bytes.now) in
    writes_short _ _ _ _ c.begin.ensures.bench c.end_part.ensures.bench _ _ (omega (arith, c.begin.ensures.later, c.end_part.ensures.later)) c.args.file.now c.args.at (length (take k c.args.bytes.now)) (length c.args.bytes.now) short c.write.ensures.crash

pub returns-in-Err-clause-crash : goal.returns-in-Err-clause-crash
returns-in-Err-clause-crash c =
    let k = c.min-count.result in
    let short : length (take k c.args.bytes.now) ≤ length c.args.bytes.now = omega (arith, length-take k c.args.bytes.now) in
    writes_short _ _ _ _ c.begin.ensures.bench c.failed.ensures.bench _ _ (omega (arith, c.begin.ensures.later, c.failed.ensures.later)) c.args.file.now c.args.at (length (take k c.args.bytes.now)) (length c.args.bytes.now) short c.write.ensures.crash
