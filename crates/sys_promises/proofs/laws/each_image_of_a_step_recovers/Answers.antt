use Rattle.sys_promises.proofs.Leaving.{answered, during, full, memory}
use Rattle.sys_promises.proofs.laws.each_image_of_a_step_recovers.Goals as goal
use Rattle.sys_run.proofs.Images.{Laws}

pub returns-clause-during : goal.returns-clause-during
returns-clause-during g c first lists x s w v result o n stands took =
    let w1 = c.what_is_written_is_read.ensures in
    let s1 = c.stopped_steps_stand.ensures in
    let laws : Laws = record { folded = w1.folded; stand = w1.stand; before = s1.before; stopped = s1.stopped; whole = s1.whole } in
    let O = g.B.Bench.outside in
    during laws first lists s w (O o) stands x v result (O n) took (g.met.B.Bench.lawful o) (g.met.B.Bench.lawful n)

pub returns-clause-answered : goal.returns-clause-answered
returns-clause-answered g c first lists x s w v result o n stands took =
    let w1 = c.what_is_written_is_read.ensures in
    let s1 = c.stopped_steps_stand.ensures in
    let laws : Laws = record { folded = w1.folded; stand = w1.stand; before = s1.before; stopped = s1.stopped; whole = s1.whole } in
    let O = g.B.Bench.outside in
    answered laws first lists s w (O o) stands c.each_step_leads_on.ensures.kept c.restores_go_on_with_the_history.ensures x v result (O n) took

pub returns-clause-memory : goal.returns-clause-memory
returns-clause-memory g c first lists x s w v result o n stands took =
    let w1 = c.what_is_written_is_read.ensures in
    let s1 = c.stopped_steps_stand.ensures in
    let laws : Laws = record { folded = w1.folded; stand = w1.stand; before = s1.before; stopped = s1.stopped; whole = s1.whole } in
    let O = g.B.Bench.outside in
    memory laws first lists s w (O o) stands x v result (O n) took (g.met.B.Bench.lawful o) (g.met.B.Bench.lawful n)

pub returns-clause-full : goal.returns-clause-full
returns-clause-full g c first lists x s w v result o n stands took f =
    let w1 = c.what_is_written_is_read.ensures in
    let s1 = c.stopped_steps_stand.ensures in
    let laws : Laws = record { folded = w1.folded; stand = w1.stand; before = s1.before; stopped = s1.stopped; whole = s1.whole } in
    let O = g.B.Bench.outside in
    full laws first lists s w (O o) stands x v result (O n) took s1.commits f
