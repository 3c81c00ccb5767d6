use Rattle.std.proofs.Common.{◌≡◌}
use Rattle.sql_grammar.specs.Meaning.{terminals}
use Rattle.sql_syntax.specs.Parsing.{begins_of}
use Rattle.sql_syntax.proofs.parser.terminals.Given as goal

-- the terminals and the places of the lexemes taken so far
abbrev pub invariant-lexemes : goal.invariant-lexemes
invariant-lexemes l = (l.list ≡ terminals l.yielded) × (l.begins ≡ begins_of l.yielded)
