use Rattle.std.proofs.Common.{rules, ◌<◌, length}
use Rattle.tests_program.proofs.Short.{took_one}
use Rattle.tests_program.proofs.fake.FakeReaderReader.read.Goals as goal

pub returns-then-self-2-clause-bytes : goal.returns-then-self-2-clause-bytes
returns-then-self-2-clause-bytes c =
    let some : 0 < length c.args.into.now = search rules in
    took_one c.args.self.now.at c.args.self.now.bytes.now c.args.into.now c.if-self-2.true some
