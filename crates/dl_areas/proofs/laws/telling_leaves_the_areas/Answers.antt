use Rattle.dl_areas.proofs.Telling.{told-ready, told-kept, told-moments}
use Rattle.dl_areas.proofs.laws.telling_leaves_the_areas.Goals as goal

pub returns-clause-ready : goal.returns-clause-ready
returns-clause-ready g c js bytes o n = let O = g.B.Bench.outside in told-ready js bytes (O o) (O n)

pub returns-clause-kept : goal.returns-clause-kept
returns-clause-kept g c js bytes o n = let O = g.B.Bench.outside in told-kept js bytes (O o) (O n)

pub returns-clause-images : goal.returns-clause-images
returns-clause-images g c js bytes o n = let O = g.B.Bench.outside in told-moments js bytes (O o) (O n)
