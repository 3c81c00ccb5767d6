-- The language: which statement a text is. Read Statements first, and of the lexemes sql_lex/specs/Lexes.
use Rattle.std.specs.Prelude.{ℕ, List, map}
use Rattle.dl_base.specs.declared.statement.Stmt.{Stmt}
use Rattle.sql_lex.specs.declared.lexeme.Lexeme.{Lexeme}
use Rattle.sql_lex.specs.Lexes.{Lexes}
use Rattle.sql_grammar.specs.declared.terminal.Terminal.{Terminal}
use Rattle.sql_grammar.specs.Proper.{terminal}
use Rattle.sql_grammar.specs.Statements.{Statement}

-- lexemes as the grammar sees them
abbrev pub terminals : List Lexeme → List Terminal
terminals xs = map (λ x. terminal x.kind) xs

-- the text is the statement
abbrev pub Means : List ℕ → Stmt → Type 0
Means text s = (xs : List Lexeme) × Lexes 1 text xs × Statement s (terminals xs)
