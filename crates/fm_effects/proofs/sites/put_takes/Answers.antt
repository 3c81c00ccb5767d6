use Rattle.std.specs.BTreeMap.{get}
use Rattle.std.specs.Cmp.Lexicographic.{slice_cmp}
use Rattle.std.specs.Ordering.{nat_cmp}
use Rattle.fm_effects.proofs.SiteLaws.{take-turn}
use Rattle.fm_effects.specs.Sites.{taken_of}
use Rattle.meaning_settling.specs.Settling.{on}
use Rattle.fm_effects.proofs.sites.put_takes.Goals as goal

pub loop-row-preserved : goal.loop-row-preserved
loop-row-preserved c q =
    take-turn c.as_slice-row-items.result.now c.args.takes.now c.loop-row.row-index c.row-item.result c.as_slice-row-items.ensures c.loop-row-test.true c.row-item.is q
    (get (slice_cmp nat_cmp) c.loop-row.sites q) (get (slice_cmp nat_cmp) c.put_take.new.sites q) (taken_of (on c.args.takes.now q) (get (slice_cmp nat_cmp) c.args.sites.now q))
    (c.in_ok-put_take.ensures q) (c.loop-row.invariant q)
