use Rattle.dl_areas.proofs.Found.{prefix-since, prefix-now}
use Rattle.dl_areas.proofs.laws.a_crash_finds_a_prefix.Goals as goal

pub returns-clause-since : goal.returns-clause-since
returns-clause-since g c js lists ws o n = let O = g.B.Bench.outside in prefix-since js lists ws (O o) (O n) (g.met.B.Bench.lawful o)

pub returns-clause-now : goal.returns-clause-now
returns-clause-now g c js lists ws o n = let O = g.B.Bench.outside in prefix-now js lists ws (O o) (O n) (g.met.B.Bench.lawful o) (g.met.B.Bench.lawful n)
