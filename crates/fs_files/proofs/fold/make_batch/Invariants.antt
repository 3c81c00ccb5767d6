use Rattle.std.proofs.Common.{◌≡◌, ◌+◌, ◌≤◌}
use Rattle.std.specs.Vec.Iter.{into_iter_items}
use Rattle.fs_files.specs.Batch.{puts}
use Rattle.meaning_files.specs.Files.{with_changes}
use Rattle.fs_files.proofs.fold.make_batch.Given as goal

-- what is left makes of the files so far what all changes make of the first, and there is room for what it puts
abbrev pub invariant-loop-next : goal.invariant-loop-next
invariant-loop-next l = record {
  same : with_changes l.table.files (into_iter_items l.next-iterator) ≡ with_changes l.initial.table.files l.fn.changes;
  room : puts (into_iter_items l.next-iterator) ≤ l.table.spare;
  spare : l.initial.table.spare + puts (into_iter_items l.next-iterator) ≤ l.table.spare + puts l.fn.changes;
}
