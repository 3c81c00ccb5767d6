-- What is printed: lexemes written one behind another, with one blank between them, and none round a dot.
use Rattle.std.specs.Prelude.{◌≡◌, ℕ, Bool, true, false, ◌||◌, ◌==◌, if◌then◌else◌, List, [], ◌∷◌, ◌++◌, map, get_or}
use Rattle.std.specs.Fmt.{signed_decimal}
use Rattle.sql_lex.specs.declared.lexeme.LexKind.{LexKind}
use Rattle.sql_lex.specs.declared.lexeme.LexKind.TheVariants.{Word, Number, Literal, Sign}
use Rattle.sql_lex.specs.declared.lexeme.Lexeme.{Lexeme}
use Rattle.sql_lex.specs.Spelling.{quoted, signs, Spells}
use Rattle.sql_lex.specs.Lexes.{Lexes}

-- how a lexeme is written
abbrev pub written : LexKind → List ℕ
written (Word w) = w
written (Number z) = signed_decimal z
written (Literal t) = quoted t
written (Sign k) = get_or signs k []

-- a lexeme, and the bytes that are written of it
abbrev pub Piece : Type 0
Piece = LexKind × List ℕ

abbrev pub is_word : LexKind → Bool
is_word (Word w) = true
is_word _ = false

-- the sign `.`
abbrev pub is_dot : LexKind → Bool
is_dot (Sign k) = k == 3
is_dot _ = false

abbrev pub joined : List Piece → List ℕ
joined [] = []
joined (x ∷ []) = x.1
joined (x ∷ y ∷ ys) = if is_dot x.0 || is_dot y.0 then x.1 ++ joined (y ∷ ys) else x.1 ++ 32 ∷ joined (y ∷ ys)

-- each is spelled so, and a dot follows a word alone
abbrev pub ArePieces : List Piece → Type 0
ArePieces [] = Unit {0}
ArePieces (x ∷ []) = Spells x.0 x.1
ArePieces (x ∷ y ∷ ys) = Spells x.0 x.1 × (is_dot y.0 ≡ true → is_word x.0 ≡ true) × ArePieces (y ∷ ys)

-- the bytes from a place on are lexemes of these kinds
abbrev pub LexesAs : ℕ → List ℕ → List LexKind → Type 0
LexesAs at bs kinds = (xs : List Lexeme) × Lexes at bs xs × (map (λ x. x.kind) xs ≡ kinds)
