use Rattle.std.specs.BTreeMap.{get}
use Rattle.std.specs.Cmp.Lexicographic.{slice_cmp}
use Rattle.std.specs.Ordering.{nat_cmp}
use Rattle.fm_effects.proofs.NumberLaws.{number-turn}
use Rattle.meaning_settling.specs.Settling.{numbered}
use Rattle.fm_effects.proofs.sources.by_number.Goals as goal

pub loop-row-preserved : goal.loop-row-preserved
loop-row-preserved c q =
    number-turn c.as_slice-row-items.result.now c.args.gives.now c.loop-row.row-index c.row-item.result c.as_slice-row-items.ensures c.loop-row-test.true c.row-item.is q
    (get (slice_cmp nat_cmp) c.loop-row.made q) (get (slice_cmp nat_cmp) c.put_number.new.made q) (numbered c.args.gives.now q)
    (c.in_ok-put_number.ensures q) (c.loop-row.invariant q)
