use Rattle.std.proofs.Common.{◌-◌, ◌+◌, length}
use Rattle.sql_grammar.specs.Readers.{listed_at}
use Rattle.sql_syntax.proofs.Loops.{ReadSoFar, comma, led}
use Rattle.sql_syntax.proofs.part.commas.Given as goal

abbrev pub invariant-commas : goal.invariant-commas
invariant-commas o l = ReadSoFar comma (led o.T.Part.reader) l.list l.terminals l.at (listed_at o.T.Part.reader l.terminals l.from)

abbrev pub decreases-commas : goal.decreases-commas
decreases-commas o l = length l.terminals + 1 - l.at
