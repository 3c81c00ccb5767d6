use Rattle.dl_areas.proofs.Doing.{does-none}
use Rattle.dl_areas.proofs.Ending.{ends-written, ends-images, ends-told, alone-written, alone-memory}
use Rattle.dl_areas.proofs.laws.steps_end_so.Goals as goal

pub returns-clause-written : goal.returns-clause-written
returns-clause-written g c js ks ws fault o n = let O = g.B.Bench.outside in ends-written js ks ws fault (O o) (O n)

pub returns-clause-memory : goal.returns-clause-memory
returns-clause-memory g c js ws o = does-none js (g.B.Bench.outside o)

pub returns-clause-images : goal.returns-clause-images
returns-clause-images g c js ks ws fault o n = let O = g.B.Bench.outside in ends-images js ks ws fault (O o) (O n)

pub returns-clause-told : goal.returns-clause-told
returns-clause-told g c js ks ws fault o n = let O = g.B.Bench.outside in ends-told js ks ws fault (O o) (O n)

pub returns-clause-alone : goal.returns-clause-alone
returns-clause-alone g c j k ws fault o n = let O = g.B.Bench.outside in alone-written j k ws fault (O o) (O n)

pub returns-clause-alone_memory : goal.returns-clause-alone_memory
returns-clause-alone_memory g c j ws o = alone-memory j ws (g.B.Bench.outside o)
