use Rattle.std.proofs.Common.{◌-◌, ◌+◌, length}
use Rattle.sql_grammar.specs.Readers.{many_at}
use Rattle.sql_syntax.proofs.Loops.{ReadSoFar}
use Rattle.sql_syntax.proofs.part.many.Given as goal

abbrev pub invariant-parts : goal.invariant-parts
invariant-parts o l = ReadSoFar o.T.Repeated.begins o.T.Repeated.reader l.list l.terminals l.at (many_at o.T.Repeated.begins o.T.Repeated.reader l.terminals l.from)

abbrev pub decreases-parts : goal.decreases-parts
decreases-parts o l = length l.terminals + 1 - l.at
