use Rattle.fm_links.proofs.Steps.{archive-claims, backup-claims, file-claims, restore-claims, tick-claims}
use Rattle.fm_links.proofs.laws.claims_behind_other_steps.Goals as goal

pub returns-clause-file : goal.returns-clause-file
returns-clause-file c = file-claims

pub returns-clause-archive : goal.returns-clause-archive
returns-clause-archive c = archive-claims

pub returns-clause-backup : goal.returns-clause-backup
returns-clause-backup c = backup-claims

pub returns-clause-restore : goal.returns-clause-restore
returns-clause-restore c = restore-claims

pub returns-clause-tick : goal.returns-clause-tick
returns-clause-tick c = tick-claims
