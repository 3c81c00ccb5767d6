-- The language: what spells a lexeme. It needs nothing read first.
use Rattle.std.specs.Prelude.{◌≡◌, ℕ, ◌^◌, ◌<◌, Bool, true, false, not, ◌&&◌, ◌||◌, ◌==◌, nat_le, if◌then◌else◌, List, [], ◌∷◌, ◌++◌, map, slice_get, Some, pos}
use Rattle.std.specs.List.{list_all}
use Rattle.std.specs.Char.{is_ascii_digit, to_ascii_lowercase}
use Rattle.std.specs.Str.Parse.{IsNumeral, digits_value}
use Rattle.dl_base.specs.Name.{IsName, is_name_byte}
use Rattle.sql_lex.specs.declared.lexeme.LexKind.{LexKind}
use Rattle.sql_lex.specs.declared.lexeme.LexKind.TheVariants.{Word, Number, Literal, Sign}

-- what stands in a literal
abbrev pub is_literal_byte : ℕ → Bool
is_literal_byte b = nat_le 32 b && not (b == 127)

-- each quote twice
abbrev pub doubled : List ℕ → List ℕ
doubled [] = []
doubled (b ∷ bs) = if b == 39 then 39 ∷ 39 ∷ doubled bs else b ∷ doubled bs

-- between quotes
abbrev pub quoted : List ℕ → List ℕ
quoted text = 39 ∷ (doubled text ++ 39 ∷ [])

-- ( ) , . ; * + - / = <> < <= > >=
abbrev pub signs : List (List ℕ)
signs = (40 ∷ []) ∷ (41 ∷ []) ∷ (44 ∷ []) ∷ (46 ∷ []) ∷ (59 ∷ []) ∷ (42 ∷ []) ∷ (43 ∷ []) ∷ (45 ∷ []) ∷ (47 ∷ []) ∷ (61 ∷ []) ∷ (60 ∷ 62 ∷ []) ∷ (60 ∷ []) ∷ (60 ∷ 61 ∷ []) ∷ (62 ∷ []) ∷ (62 ∷ 61 ∷ []) ∷ []

-- begins with a byte that passes
abbrev pub begins : (ℕ → Bool) → List ℕ → Bool
begins p [] = false
begins p (b ∷ bs) = p b

-- a number is below it
abbrev pub number_bound : ℕ
number_bound = 2 ^ 63

-- The bytes spell the lexeme. A word is a name in any case, a number is below 2 to the 63rd.
abbrev pub Spells : LexKind → List ℕ → Type 0
Spells (Word w) body = IsName body × (w ≡ map to_ascii_lowercase body)
Spells (Number z) body = IsNumeral 10 body × (digits_value 10 body < number_bound) × (z ≡ pos (digits_value 10 body))
Spells (Literal t) body = (list_all is_literal_byte t ≡ true) × (body ≡ quoted t)
Spells (Sign k) body = slice_get signs k ≡ Some body

-- a byte that would make the lexeme longer
abbrev pub goes_on : LexKind → ℕ → Bool
goes_on (Word w) b = is_name_byte b
goes_on (Number z) b = is_ascii_digit b
goes_on (Literal t) b = b == 39
goes_on (Sign k) b = (k == 11 && (b == 61 || b == 62)) || (k == 13 && b == 61)

-- the longest lexeme at the front of body ++ rest is body
abbrev pub IsFront : LexKind → List ℕ → List ℕ → Type 0
IsFront kind body rest = Spells kind body × (begins (goes_on kind) rest ≡ false)

-- some bytes spell the lexeme
abbrev pub IsSpelled : LexKind → Type 0
IsSpelled kind = (body : List ℕ) × Spells kind body
