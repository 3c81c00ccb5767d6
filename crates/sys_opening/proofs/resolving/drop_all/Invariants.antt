use Rattle.std.specs.Vec.Iter.{into_iter_items}
use Rattle.sys_opening.proofs.Dropping.{Dropping}
use Rattle.sys_opening.proofs.resolving.drop_all.Given as goal

-- the branches so far are dropped, but those that have a commit
abbrev pub invariant-loop-tx : goal.invariant-loop-tx
invariant-loop-tx g l =
    let outside = g.B.Bench.outside in
    Dropping l.initial.owners l.owners (into_iter_items l.tx-iterator) (outside l.initial.bench) (outside l.bench)
