use Rattle.meaning_system.specs.Machine.{step}
use Rattle.sys_recovery.proofs.Shapes.{commits-last}
use Rattle.sys_recovery.proofs.Stopping.{stopped}
use Rattle.sys_recovery.proofs.laws.stopped_steps_stand.Goals as goal

pub returns-clause-before : goal.returns-clause-before
returns-clause-before c first f s sound = c.a_state_and_its_core_have_one_stored_part.ensures.stand f s sound.follows.joint

pub returns-clause-stopped : goal.returns-clause-stopped
returns-clause-stopped c first f s x sound small atomic =
    let on = c.each_step_leads_on.ensures.kept first f s x sound small (λ t is. c.restores_go_on_with_the_history.ensures first f s sound t) in
    stopped c.lists_stand_for_their_core.ensures.stand c.a_finish_goes_on.ensures.fronts c.steps_keep_tables_fitting.ensures.numbers first f s sound
    (c.a_state_and_its_core_have_one_stored_part.ensures.stand f s sound.follows.joint) small x atomic (λ t is. c.restores_go_on_with_the_history.ensures first f s sound t) (on.0, on.1)

pub returns-clause-whole : goal.returns-clause-whole
returns-clause-whole c first f s x sound small atomic =
    let on = c.each_step_leads_on.ensures.kept first f s x sound small (λ t is. c.restores_go_on_with_the_history.ensures first f s sound t) in
    (on.0, on.1, c.a_state_and_its_core_have_one_stored_part.ensures.stand on.0 (step s x).1 on.2.follows.joint)

pub returns-clause-commits : goal.returns-clause-commits
returns-clause-commits c = commits-last
