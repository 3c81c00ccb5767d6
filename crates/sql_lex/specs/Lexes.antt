-- The language: the lexemes of a text, and the byte that begins none. Read Spelling first.
use Rattle.std.specs.Prelude.{◌≡◌, ◌+◌, ℕ, true, false, List, [], ◌∷◌, ◌++◌, length, Result, Ok, Err}
use Rattle.std.specs.List.{list_all}
use Rattle.sql_lex.specs.declared.lexeme.LexKind.{LexKind}
use Rattle.sql_lex.specs.declared.lexeme.Lexeme.{Lexeme}
use Rattle.sql_lex.specs.declared.lexeme.LexFault.{LexFault}
use Rattle.sql_lex.specs.declared.lexeme.LexFault.TheVariants.{BadChar, Memory}
use Rattle.dl_base.specs.Blank.{is_blank}
use Rattle.sql_lex.specs.Spelling.{IsFront}

-- The bytes from a place on are these lexemes, each the longest where it begins, with blanks before it; and then follows what `Last` says.
abbrev pub LexesTo : (ℕ → List ℕ → Type 0) → ℕ → List ℕ → List Lexeme → Type 0
LexesTo Last at bs [] = Last at bs
LexesTo Last at bs (x ∷ xs) = (gap body rest : List ℕ) × (bs ≡ gap ++ (body ++ rest)) × (list_all is_blank gap ≡ true) × IsFront x.kind body rest × (x.begin ≡ at + length gap) × (x.end ≡ x.begin + length body) × LexesTo Last x.end rest xs

-- nothing but blanks
abbrev pub Blanks : ℕ → List ℕ → Type 0
Blanks at bs = list_all is_blank bs ≡ true

-- the bytes from a place on are these lexemes, with blanks round them
abbrev pub Lexes : ℕ → List ℕ → List Lexeme → Type 0
Lexes = LexesTo Blanks

-- no lexeme is at the front
abbrev pub NoFront : List ℕ → Type 0
NoFront bs = (kind : LexKind) (body rest : List ℕ) → bs ≡ body ++ rest → IsFront kind body rest → ⊥

-- blanks, and at `bad` a byte that is no blank and begins no lexeme
abbrev pub BadByte : ℕ → ℕ → List ℕ → Type 0
BadByte bad at bs = (gap : List ℕ) × (b : ℕ) × (rest : List ℕ) × (bs ≡ gap ++ b ∷ rest) × (list_all is_blank gap ≡ true) × (is_blank b ≡ false) × (bad ≡ at + length gap) × NoFront (b ∷ rest)

-- the first byte of a text that begins no lexeme stands at this place, from 1
abbrev pub IsBad : List ℕ → ℕ → Type 0
IsBad bs bad = (xs : List Lexeme) × LexesTo (BadByte bad) 1 bs xs

-- the answer is these lexemes or this place, unless memory ran out
abbrev pub AnswersLexing : Result (List Lexeme) LexFault → Result (List Lexeme) ℕ → Type 0
AnswersLexing (Ok list) r = r ≡ Ok list
AnswersLexing (Err (BadChar k)) r = r ≡ Err k
AnswersLexing (Err Memory) r = Unit {0}

-- where the answer is a bad byte, P holds of its place
abbrev pub IfBadChar : Result (List Lexeme) LexFault → (ℕ → Type 0) → Type 0
IfBadChar (Ok list) P = Unit {0}
IfBadChar (Err (BadChar k)) P = P k
IfBadChar (Err Memory) P = Unit {0}
