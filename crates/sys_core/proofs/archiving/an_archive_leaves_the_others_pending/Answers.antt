use Rattle.sys_core.proofs.Left.{first-archived, others-pending}
use Rattle.sys_core.proofs.archiving.an_archive_leaves_the_others_pending.Goals as goal

pub returns-clause-archived : goal.returns-clause-archived
returns-clause-archived c first f s l ls sound is = first-archived first f s sound l ls is

pub returns-clause-left : goal.returns-clause-left
returns-clause-left c first f s l ls sound is = others-pending first f s sound l ls is
