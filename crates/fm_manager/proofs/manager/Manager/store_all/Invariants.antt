use Rattle.std.specs.Vec.Iter.{into_iter_items}
use Rattle.fm_manager.proofs.Storing.{Storing, managed}
use Rattle.fm_manager.proofs.manager.Manager.store_all.Given as goal

-- the copies so far are stored
abbrev pub invariant-loop-copy : goal.invariant-loop-copy
invariant-loop-copy g l =
    let outside = g.B.Bench.outside in
    Storing (managed l.initial.self-inside.branches l.initial.self-inside.files l.initial.self-inside.archive) (managed l.self-inside.branches l.self-inside.files l.self-inside.archive)
    l.fn.copies (into_iter_items l.copy-iterator) (outside l.initial.bench) (outside l.bench)
