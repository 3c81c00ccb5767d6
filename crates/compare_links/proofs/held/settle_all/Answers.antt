use Rattle.std.proofs.Common.{◌+◌, drop}
use Rattle.std.specs.Cmp.Lexicographic.{slice_cmp}
use Rattle.std.specs.FinMap as maps
use Rattle.std.specs.Ordering.{nat_cmp}
use Rattle.meaning_areas.specs.Stands.{txs_of}
use Rattle.compare_links.proofs.Holding.{settled-turn}
use Rattle.compare_every.proofs.Lists.{left-at}
use Rattle.compare_links.specs.Fitting.{held_settled}
use Rattle.compare_links.proofs.held.settle_all.Goals as goal

pub loop-index-preserved : goal.loop-index-preserved
loop-index-preserved c =
    let txs = txs_of c.args.store.now.rows.commits in
    let i = c.loop-index.index in
    settled-turn c.args.branches.now.links (maps.from_entries {R = slice_cmp nat_cmp} c.loop-index.held.entries) (maps.from_entries c.settle.new.held.entries) (drop i txs) (drop (i + 1) txs) c.transaction.result
    (held_settled c.args.branches.now.links txs (maps.from_entries c.args.held.now.entries)) (left-at txs i c.transaction.result c.transaction.ensures) c.in_ok-settle.ensures c.loop-index.invariant
