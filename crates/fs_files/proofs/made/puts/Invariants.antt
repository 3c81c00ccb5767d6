use Rattle.std.proofs.Common.{◌≡◌, ◌+◌, ◌≤◌, drop}
use Rattle.fs_files.specs.Batch.{puts}
use Rattle.fs_files.proofs.made.puts.Given as goal

-- the count so far, and that of the changes that are left, are all; a change puts one at most
abbrev pub invariant-loop-change : goal.invariant-loop-change
invariant-loop-change l = record {
  all : l.count + puts (drop l.change-index l.changes) ≡ puts l.changes;
  few : l.count ≤ l.change-index;
}
