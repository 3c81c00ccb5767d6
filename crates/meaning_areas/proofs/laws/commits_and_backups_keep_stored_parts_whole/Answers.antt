use Rattle.meaning_areas.specs.Core.{core_stored}
use Rattle.meaning_areas.proofs.Whole.{whole-decided, whole-backup}
use Rattle.meaning_areas.proofs.laws.commits_and_backups_keep_stored_parts_whole.Goals as goal

pub returns-clause-decided : goal.returns-clause-decided
returns-clause-decided c = whole-decided

pub returns-clause-backed_up : goal.returns-clause-backed_up
returns-clause-backed_up c k b = whole-backup (core_stored k) b
