use Rattle.std.proofs.Common.{arith}
use Rattle.db_replay.proofs.RowLaws.{raised}
use Rattle.db_replay.proofs.rows.raise_next.Goals as goal

pub returns-then-next_number-next-clause-raised : goal.returns-then-next_number-next-clause-raised
returns-then-next_number-next-clause-raised c =
    raised c.args.table.now c.set_next_number.new.self c.args.next c.set_next_number.result c.next_number.ensures.numbered (omega (arith, c.if-next_number-next.true, c.next_number.ensures.value)) c.set_next_number.ensures.above c.set_next_number.ensures.set
