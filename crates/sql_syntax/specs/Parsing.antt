-- The language: what the grammar answers to a text. Read Statements and Meaning of sql_grammar first.
use Rattle.std.specs.Prelude.{◌≡◌, ℕ, suc, List, length, map, Option, Some, None, slice_get, Result, Ok, Err}
use Rattle.dl_base.specs.declared.statement.Stmt.{Stmt}
use Rattle.sql_lex.specs.declared.lexeme.Lexeme.{Lexeme}
use Rattle.sql_lex.specs.Lexes.{Lexes, IsBad}
use Rattle.sql_grammar.specs.Lang.{IsFaultOf}
use Rattle.sql_grammar.specs.Statements.{Statement}
use Rattle.sql_grammar.specs.Meaning.{terminals, Means}
use Rattle.sql_syntax.specs.declared.parser.ParseFault.{ParseFault}
use Rattle.sql_syntax.specs.declared.parser.ParseFault.TheVariants as fault

abbrev pub begin_or : Option Lexeme → ℕ → ℕ
begin_or (Some x) end = x.begin
begin_or None end = end

-- where the lexeme of a number begins, or one past the text's last byte
abbrev pub place_in : List ℕ → List Lexeme → ℕ → ℕ
place_in text xs k = begin_or (slice_get xs k) (suc (length text))

-- where each lexeme begins
abbrev pub begins_of : List Lexeme → List ℕ
begins_of xs = map (λ x. x.begin) xs

abbrev pub or_end : Option ℕ → ℕ → ℕ
or_end (Some place) end = place
or_end None end = end

-- The lexemes before the place begin a statement, and with the one at the place they begin none; or the place is one past the text's last byte, and the lexemes begin a statement and are none.
abbrev pub IsSyntaxAt : List ℕ → ℕ → Type 0
IsSyntaxAt text place = (xs : List Lexeme) × (k : ℕ) × Lexes 1 text xs × IsFaultOf Statement (terminals xs) k × (place ≡ place_in text xs k)

-- what the grammar answers to a text
abbrev pub Parses : List ℕ → Result Stmt ParseFault → Type 0
Parses text (Ok s) = Means text s
Parses text (Err (fault.BadChar k)) = IsBad text k
Parses text (Err (fault.Syntax k)) = IsSyntaxAt text k
Parses text (Err fault.Memory) = Unit {0}

-- two answers are the same, unless one is want of memory
abbrev pub Agrees : Result Stmt ParseFault → Result Stmt ParseFault → Type 0
Agrees (Err fault.Memory) r = Unit {0}
Agrees q (Err fault.Memory) = Unit {0}
Agrees q r = q ≡ r

-- the answer is what was read of the lexemes of a text
abbrev pub AnswersParsing : List ℕ → List Lexeme → Result Stmt ParseFault → Result Stmt ℕ → Type 0
AnswersParsing text xs (Ok s) read = read ≡ Ok s
AnswersParsing text xs (Err (fault.BadChar p)) read = ⊥
AnswersParsing text xs (Err (fault.Syntax p)) read = (k : ℕ) × (read ≡ Err k) × (p ≡ place_in text xs k)
AnswersParsing text xs (Err fault.Memory) read = Unit {0}
