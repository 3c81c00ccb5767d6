use Rattle.meaning_areas.proofs.Standing.{joint-stand}
use Rattle.meaning_areas.proofs.Opened.{joint-opened, opened-stored}
use Rattle.meaning_areas.proofs.laws.lists_stand_for_their_core.Goals as goal

pub returns-clause-stand : goal.returns-clause-stand
returns-clause-stand c = joint-stand

pub returns-clause-opened : goal.returns-clause-opened
returns-clause-opened c = joint-opened

pub returns-clause-stored : goal.returns-clause-stored
returns-clause-stored c = opened-stored
