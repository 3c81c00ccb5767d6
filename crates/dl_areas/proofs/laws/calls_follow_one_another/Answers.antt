use Rattle.dl_areas.proofs.Doing.{does-none, does-then, does-stop, does-as}
use Rattle.dl_areas.proofs.laws.calls_follow_one_another.Goals as goal

pub returns-clause-none : goal.returns-clause-none
returns-clause-none g c js o = does-none js (g.B.Bench.outside o)

pub returns-clause-then : goal.returns-clause-then
returns-clause-then g c js ks ls ws vs fault o m n = let O = g.B.Bench.outside in does-then js ks ls ws vs fault (O o) (O m) (O n)

pub returns-clause-stop : goal.returns-clause-stop
returns-clause-stop g c js ks ws vs fault o n = let O = g.B.Bench.outside in does-stop js ks ws vs fault (O o) (O n)

pub returns-clause-same : goal.returns-clause-same
returns-clause-same g c js ks ws vs f e o n = let O = g.B.Bench.outside in does-as js ks ws vs f e (O o) (O n)
