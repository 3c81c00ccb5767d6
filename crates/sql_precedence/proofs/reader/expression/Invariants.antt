use Rattle.std.proofs.Common.{◌≡◌, drop}
use Rattle.sql_grammar.specs.Machine.{run}
use Rattle.sql_grammar.specs.Readers.{expression_at}
use Rattle.sql_precedence.specs.Views.{state_of}
use Rattle.sql_precedence.proofs.reader.expression.Given as goal

-- what is left is read as all is
abbrev pub invariant-loop-at : goal.invariant-loop-at
invariant-loop-at l = run (state_of l.reading) l.at (drop l.at l.terminals) ≡ expression_at l.terminals l.from
