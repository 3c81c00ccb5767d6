use Rattle.meaning_restored.proofs.Back.{backed-up, brings}
use Rattle.meaning_restored.proofs.laws.a_restore_brings_its_target_back.Goals as goal

pub returns-clause-brings : goal.returns-clause-brings
returns-clause-brings c first f s sound t n lost answer small = brings c.each_step_leads_on.ensures.kept first f s sound small t n lost answer

pub returns-clause-backed_up : goal.returns-clause-backed_up
returns-clause-backed_up c = backed-up c.each_step_leads_on.ensures.kept
