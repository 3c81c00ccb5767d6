use Rattle.std.proofs.Common.{◌≡◌}
use Rattle.std.specs.Vec.Iter.{into_iter_items}
use Rattle.meaning_files.specs.Files.{with_changes}
use Rattle.fs_files.proofs.fold.change_all.Given as goal

-- what is left makes of the files so far what all changes make of the first
abbrev pub invariant-loop-next : goal.invariant-loop-next
invariant-loop-next l = with_changes l.table.files (into_iter_items l.next-iterator) ≡ with_changes l.initial.table.files l.fn.changes
