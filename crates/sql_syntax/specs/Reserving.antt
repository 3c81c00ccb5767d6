-- The reader: the reserved words, some at a time. Read Reserved and Proper of sql_grammar first.
use Rattle.std.specs.Prelude.{ℕ, List, take, drop, Option}
use Rattle.sql_grammar.specs.declared.symbol.Symbol.{Symbol}
use Rattle.sql_grammar.specs.Proper.{symbol_in}
use Rattle.sql_grammar.specs.Reserved.{reserved}

-- the symbol of a word that is one of nine reserved words, from a place in their list on
unfoldable pub symbol_of_nine : ℕ → List ℕ → Option Symbol
symbol_of_nine from w = symbol_in (take 9 (drop from reserved)) w
