use Rattle.std.proofs.Common.{◌≡◌, ◌++◌, map}
use Rattle.meaning_files.specs.Commands.{rows_of}
use Rattle.fs_files.proofs.table.FileTable.list.Given as goal

-- the rows so far, and those of the files that are left, are all
abbrev pub invariant-loop-path : goal.invariant-loop-path
invariant-loop-path l = l.rows ++ map (λ e. record { path = e.0; file = e.1 }) l.path-iterator ≡ rows_of l.self.files
