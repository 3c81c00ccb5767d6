use Rattle.sys_promises.proofs.Still.{same-stored}
use Rattle.sys_promises.proofs.laws.a_step_in_memory_leaves_the_areas.Goals as goal
use Rattle.sys_run.proofs.InMemory.{in-memory}

pub returns-clause-steps : goal.returns-clause-steps
returns-clause-steps g c first x s w v result o = in-memory first x s w v result (g.B.Bench.outside o)

pub returns-clause-same : goal.returns-clause-same
returns-clause-same g c first lists x s w v result o = same-stored c.stopped_steps_stand.ensures.before c.stopped_steps_stand.ensures.whole first lists x s w v result (g.B.Bench.outside o)
