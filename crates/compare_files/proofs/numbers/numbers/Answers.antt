use Rattle.compare_files.proofs.Numbered.{number-turn}
use Rattle.compare_files.proofs.numbers.numbers.Goals as goal

pub loop-row-preserved : goal.loop-row-preserved
loop-row-preserved c =
    number-turn c.as_slice-row-items.result.now c.args.linked.now c.loop-row.row-index c.row-item.result c.as_slice-row-items.ensures c.loop-row-test.true c.row-item.is
    c.key_of.result c.loop-row.made.keys c.insert.new.self.keys c.key_of.ensures c.in_ok-insert.ensures.updates.0 c.loop-row.invariant
