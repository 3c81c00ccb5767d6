-- The language: the terminals of lexemes, and which terminals a text can have. Read Words and Reserved first.
use Rattle.std.specs.Prelude.{◌≡◌, ℕ, List, [], ◌∷◌, Option, Some, None, if◌then◌else◌, get_or}
use Rattle.sql_lex.specs.declared.lexeme.LexKind.{LexKind}
use Rattle.sql_lex.specs.declared.lexeme.LexKind.TheVariants as lexeme
use Rattle.sql_lex.specs.Spelling.{IsSpelled}
use Rattle.sql_grammar.specs.declared.symbol.Symbol.{Symbol}
use Rattle.sql_grammar.specs.declared.symbol.Symbol.TheVariants as symbol
use Rattle.sql_grammar.specs.declared.terminal.Terminal.{Terminal}
use Rattle.sql_grammar.specs.declared.terminal.Terminal.TheVariants.{Fixed, Word, Number, Literal}
use Rattle.sql_grammar.specs.Words.{same_bytes}
use Rattle.sql_grammar.specs.Reserved.{reserved}

-- the symbol of a word in a list of words
abbrev pub symbol_in : List (List ℕ × Symbol) → List ℕ → Option Symbol
symbol_in [] w = None
symbol_in (x ∷ xs) w = if same_bytes w x.0 then Some x.1 else symbol_in xs w

-- the symbol of a reserved word
unfoldable pub reserved_symbol : List ℕ → Option Symbol
reserved_symbol w = symbol_in reserved w

-- the symbols of the signs, in the lexer's order
abbrev pub sign_symbols : List Symbol
sign_symbols =
    symbol.Open ∷ symbol.Close ∷ symbol.Comma ∷ symbol.Dot ∷ symbol.Semicolon ∷ symbol.Star ∷ symbol.Plus ∷ symbol.Minus ∷ symbol.Slash ∷ symbol.Equal
    ∷ symbol.Unequal ∷ symbol.Less ∷ symbol.LessEqual ∷ symbol.Greater ∷ symbol.GreaterEqual ∷ []

abbrev pub sign_symbol : ℕ → Symbol
sign_symbol k = get_or sign_symbols k symbol.GreaterEqual

abbrev pub word_terminal : Option Symbol → List ℕ → Terminal
word_terminal (Some m) w = Fixed m
word_terminal None w = Word w

-- a lexeme as the grammar sees it
abbrev pub terminal : LexKind → Terminal
terminal (lexeme.Word w) = word_terminal (reserved_symbol w) w
terminal (lexeme.Number z) = Number z
terminal (lexeme.Literal t) = Literal t
terminal (lexeme.Sign k) = Fixed (sign_symbol k)

-- some lexeme of a text is the terminal
abbrev pub IsProper : Terminal → Type 0
IsProper (Fixed m) = Unit {0}
IsProper (Word w) = IsSpelled (lexeme.Word w) × (reserved_symbol w ≡ None)
IsProper (Number z) = IsSpelled (lexeme.Number z)
IsProper (Literal t) = IsSpelled (lexeme.Literal t)

abbrev pub AreProper : List Terminal → Type 0
AreProper [] = Unit {0}
AreProper (w ∷ ws) = IsProper w × AreProper ws
