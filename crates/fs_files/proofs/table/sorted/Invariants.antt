use Rattle.std.proofs.Common.{◌≡◌, map}
use Rattle.std.specs.FinMap as files
use Rattle.std.specs.Map.Iter.{deref_pair}
use Rattle.fs_files.proofs.Tables.{files_of}
use Rattle.fs_files.proofs.table.sorted.Given as goal

-- what was put in order are the files of the entries so far
abbrev pub invariant-loop-path : goal.invariant-loop-path
invariant-loop-path l = l.made.entries ≡ files.entries (files_of (map deref_pair l.yielded))
