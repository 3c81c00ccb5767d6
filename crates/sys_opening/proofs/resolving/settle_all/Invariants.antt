use Rattle.std.proofs.Common.{drop}
use Rattle.sys_opening.proofs.Settling.{Settling}
use Rattle.sys_owners.specs.Owned.{folds_in}
use Rattle.sys_opening.proofs.resolving.settle_all.Given as goal

-- the branches of the commits so far are settled
abbrev pub invariant-loop-index : goal.invariant-loop-index
invariant-loop-index g l =
    let outside = g.B.Bench.outside in
    Settling l.initial.owners l.owners (drop l.index (folds_in l.initial.owners).rows.commits) (outside l.initial.bench) (outside l.bench)
