use Rattle.std.proofs.Common.{◌≡◌, ◌==◌, ◌++◌, drop, filter, map}
use Rattle.meaning_merge.specs.Merging.{new_by}
use Rattle.db_changes.specs.Handles.{new_handle}
use Rattle.db_changes.proofs.diff.put_new.Given as goal

abbrev pub invariant-loop-i : goal.invariant-loop-i
invariant-loop-i l = record {
  changes : l.changes ++ map new_by (filter (λ t. t.1.version == 0) (drop l.i l.copy)) ≡ l.fn.changes ++ map new_by (filter (λ t. t.1.version == 0) l.copy);
  handles : l.handles ++ map new_handle (filter (λ t. t.1.version == 0) (drop l.i l.copy)) ≡ l.fn.handles ++ map new_handle (filter (λ t. t.1.version == 0) l.copy);
}
