use Rattle.std.proofs.Common.{drop}
use Rattle.dl_areas.specs.Batch.{writes_in}
use Rattle.dl_areas.proofs.Batching.{DoingAlone}
use Rattle.dl_areas.proofs.batch.append_all.Given as goal

-- the records of the bodies so far are written
abbrev pub invariant-loop-body : goal.invariant-loop-body
invariant-loop-body g l =
    let outside = g.B.Bench.outside in
    let area = l.initial.journal.area in
    DoingAlone l.initial.journal l.journal (writes_in area l.body-items) (writes_in area (drop l.body-index l.body-items)) (outside l.initial.bench) (outside l.bench)
