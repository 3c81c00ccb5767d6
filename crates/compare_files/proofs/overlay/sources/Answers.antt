use Rattle.std.proofs.Common.{◌+◌, drop}
use Rattle.compare_files.specs.Effects.{sourced}
use Rattle.compare_files.proofs.Turns.{comes-more, tx-turn}
use Rattle.compare_files.proofs.overlay.sources.Goals as goal
use Rattle.meaning_areas.specs.Stands.{open_in, txs_of}

pub loop-i-preserved : goal.loop-i-preserved
loop-i-preserved c =
    comes-more sourced (open_in c.args.branches.now.links) (txs_of c.args.store.now.rows.commits) (drop c.loop-i.i (txs_of c.args.store.now.rows.commits)) (drop (c.loop-i.i + 1) (txs_of c.args.store.now.rows.commits)) c.in-Some.tx
    c.loop-i.made.entries c.put_sources_of.new.sources.entries
    (tx-turn c.args.store.now.rows.commits c.loop-i.i c.commit_at.result c.in-Some.tx c.in-Some.field-0-1 c.commit_at.ensures c.in-Some.is)
    c.loop-i.invariant c.in_ok-put_sources_of.ensures
