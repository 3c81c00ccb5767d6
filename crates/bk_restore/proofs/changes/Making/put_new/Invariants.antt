use Rattle.std.proofs.Common.{◌≡◌, ◌++◌, drop, map}
use Rattle.meaning_merge.specs.Merging.{new_by}
use Rattle.meaning_merge.specs.Restoring.{new_in}
use Rattle.db_changes.specs.Handles.{new_handle}
use Rattle.bk_restore.proofs.changes.Making.put_new.Given as goal

abbrev pub invariant-loop-i : goal.invariant-loop-i
invariant-loop-i l = record {
  changes : l.self.changes ++ map new_by (new_in l.now (drop l.i l.later)) ≡ l.fn.self.changes ++ map new_by (new_in l.now l.later);
  handles : l.self.handles ++ map new_handle (new_in l.now (drop l.i l.later)) ≡ l.fn.self.handles ++ map new_handle (new_in l.now l.later);
}
