use Rattle.std.proofs.Common.{refl}
use Rattle.meaning_areas.specs.Commits.{commit_to}
use Rattle.meaning_merge.proofs.RestoreChanges.{record-taken, restore-taken}
use Rattle.meaning_merge.proofs.Restored.{past-follows, restore-follows}
use Rattle.meaning_merge.proofs.laws.changes_of_a_restore_lead_to_its_tables.Goals as goal

pub returns-clause-lead : goal.returns-clause-lead
returns-clause-lead c first cs n target lost history at = restore-taken first cs _ history (past-follows first cs n target lost history at)

pub returns-clause-taken : goal.returns-clause-taken
returns-clause-taken c first r tx n branch target lost history at new drawn =
    let can = past-follows first r.commits n target lost history at in
    record-taken r tx branch _ _ new drawn (restore-taken first r.commits _ history can) (restore-follows first r.commits _ (commit_to r.commits tx branch _) history can refl).fit
