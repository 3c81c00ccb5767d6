use Rattle.sys_promises.proofs.Leaving.{all-recover, stands-opened}
use Rattle.sys_promises.proofs.laws.an_engine_stands_over_its_areas.Goals as goal
use Rattle.sys_run.proofs.Images.{Laws}

pub returns-clause-opened : goal.returns-clause-opened
returns-clause-opened g c limit lists f s w o n =
    let O = g.B.Bench.outside in
    let w1 = c.what_is_written_is_read.ensures in
    let s1 = c.stopped_steps_stand.ensures in
    let laws : Laws = record { folded = w1.folded; stand = w1.stand; before = s1.before; stopped = s1.stopped; whole = s1.whole } in
    stands-opened laws limit lists f s w (O o) (O n)

pub returns-clause-recovers : goal.returns-clause-recovers
returns-clause-recovers g c first lists s w o stands =
    let w1 = c.what_is_written_is_read.ensures in
    let s1 = c.stopped_steps_stand.ensures in
    let laws : Laws = record { folded = w1.folded; stand = w1.stand; before = s1.before; stopped = s1.stopped; whole = s1.whole } in
    all-recover laws first lists s w (g.B.Bench.outside o) stands
