use Rattle.std.proofs.Common.{◌+◌, drop, sym, ◌∙◌}
use Rattle.compare_files.specs.Copies.{stands_at}
use Rattle.compare_files.proofs.Turns.{stands-more, stands-not, tx-turn}
use Rattle.compare_files.proofs.archive.all_stand.Goals as goal
use Rattle.meaning_areas.specs.Stands.{open_in, txs_of}

pub returns-then-not-open_stands : goal.returns-then-not-open_stands
returns-then-not-open_stands c =
    stands-not (stands_at c.args.sight.settled.now c.args.sight.files.now.files c.args.sight.archive.now.copies c.args.sight.every.now) (open_in c.args.branches.now.links)
    (txs_of c.args.store.now.rows.commits) (drop c.loop-i.i (txs_of c.args.store.now.rows.commits)) (drop (c.loop-i.i + 1) (txs_of c.args.store.now.rows.commits)) c.in-Some.tx
    (tx-turn c.args.store.now.rows.commits c.loop-i.i c.commit_at.result c.in-Some.tx c.in-Some.field-0-1 c.commit_at.ensures c.in-Some.is)
    (sym c.open_stands.ensures ∙ c.if-not-open_stands.true) c.loop-i.invariant

pub loop-i-preserved : goal.loop-i-preserved
loop-i-preserved c =
    stands-more (stands_at c.args.sight.settled.now c.args.sight.files.now.files c.args.sight.archive.now.copies c.args.sight.every.now) (open_in c.args.branches.now.links)
    (txs_of c.args.store.now.rows.commits) (drop c.loop-i.i (txs_of c.args.store.now.rows.commits)) (drop (c.loop-i.i + 1) (txs_of c.args.store.now.rows.commits)) c.in-Some.tx
    (tx-turn c.args.store.now.rows.commits c.loop-i.i c.commit_at.result c.in-Some.tx c.in-Some.field-0-1 c.commit_at.ensures c.in-Some.is)
    (sym c.open_stands.ensures ∙ c.if-not-open_stands.false) c.loop-i.invariant
