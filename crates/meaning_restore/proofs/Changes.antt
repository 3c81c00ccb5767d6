-- The changes of a restore lead from the committed tables to the restored ones.
use Rattle.std.proofs.Common.{◌≡◌, ℕ, Some}
use Rattle.meaning_areas.specs.Commits.{with_table_changes}
use Rattle.meaning_merge.specs.Restoring.{restore_changes, without_lost}
use Rattle.meaning_merge.proofs.RestoreChanges.{restore-taken}
use Rattle.meaning_tables.specs.Tables.{Tables}
use Rattle.meaning_system.specs.Machine.{lost_to, next_commit, restore_to}
use Rattle.meaning_system.specs.State.{State, tables_of}
use Rattle.meaning_restore.proofs.Let.{IsLet, bare, can}

pub changes-lead : (first : ℕ) (s : State) (target : Tables) → IsLet first s target → with_table_changes (next_commit s) (tables_of s) (restore_changes (tables_of s) (without_lost (lost_to s target) target)) ≡ Some (restore_to s target)
changes-lead first s target has = restore-taken first s.commits (bare first s target has) has.history (can first s target has)
