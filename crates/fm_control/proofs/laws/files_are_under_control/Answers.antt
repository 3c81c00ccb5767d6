use Rattle.fm_control.proofs.Behind.{theirs-begin, theirs-kept}
use Rattle.fm_control.proofs.Controlled.{controlled}
use Rattle.fm_control.proofs.laws.files_are_under_control.Goals as goal

pub returns-clause-controlled : goal.returns-clause-controlled
returns-clause-controlled c = controlled

pub returns-clause-start : goal.returns-clause-start
returns-clause-start c = theirs-begin

pub returns-clause-kept : goal.returns-clause-kept
returns-clause-kept c first f s x sound theirs = theirs-kept first f s x sound theirs
