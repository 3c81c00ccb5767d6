use Rattle.std.proofs.Common.{drop}
use Rattle.compare_files.proofs.Numbered.{HasAllKeys}
use Rattle.compare_files.proofs.numbers.numbers.Given as goal

-- the numbers so far, and those of the links that are left, are all
abbrev pub invariant-loop-row : goal.invariant-loop-row
invariant-loop-row l = HasAllKeys l.linked (drop l.row-index l.linked) l.made.keys
