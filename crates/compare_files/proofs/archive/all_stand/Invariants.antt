use Rattle.std.proofs.Common.{◌≡◌, drop}
use Rattle.compare_files.specs.Copies.{all_stand, stands_at}
use Rattle.compare_files.proofs.archive.all_stand.Given as goal
use Rattle.meaning_areas.specs.Stands.{open_in, txs_of}

-- all so far stand
abbrev pub invariant-loop-i : goal.invariant-loop-i
invariant-loop-i l =
    all_stand (stands_at l.sight.settled.now l.sight.files.now.files l.sight.archive.now.copies l.sight.every.now) (open_in l.branches.links) (drop l.i (txs_of l.store.rows.commits))
    ≡ all_stand (stands_at l.sight.settled.now l.sight.files.now.files l.sight.archive.now.copies l.sight.every.now) (open_in l.branches.links) (txs_of l.store.rows.commits)
