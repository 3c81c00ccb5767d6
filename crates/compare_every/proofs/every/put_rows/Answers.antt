use Rattle.std.specs.BTreeMap.{get}
use Rattle.std.specs.Cmp.Lexicographic.{slice_cmp}
use Rattle.std.specs.Ordering.{nat_cmp}
use Rattle.meaning_settling.specs.Settling.{numbered}
use Rattle.compare_every.proofs.Rows.{rows-turn}
use Rattle.compare_every.specs.Every.{first_row}
use Rattle.compare_every.proofs.every.put_rows.Goals as goal

pub loop-link-preserved : goal.loop-link-preserved
loop-link-preserved c n =
    rows-turn c.as_slice-link-items.result.now c.args.links.now c.loop-link.link-index c.link-item.result c.as_slice-link-items.ensures c.loop-link-test.true c.link-item.is
    (get (slice_cmp nat_cmp) c.loop-link.rows) (get (slice_cmp nat_cmp) c.put_row.new.rows) n (first_row (get (slice_cmp nat_cmp) c.args.rows.now n) (numbered c.args.links.now n)) (c.in_ok-put_row.ensures n) (c.loop-link.invariant n)
