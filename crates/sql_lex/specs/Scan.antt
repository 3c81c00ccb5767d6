-- The reader: the lexeme at the front, and all of them from left to right. Read Spelling first; that it reads what Lexes says is shown in proofs/Fronts and proofs/Scans.
use Rattle.std.specs.Prelude.{ℕ, zero, suc, ◌+◌, ◌-◌, ◌*◌, Bool, true, false, ◌==◌, nat_le, nat_lt, if◌then◌else◌, List, [], ◌∷◌, take, map, Option, Some, None, Result, Ok, Err, pos}
use Rattle.std.specs.List.{prefix_len}
use Rattle.std.specs.Char.{is_ascii_digit, is_ascii_alphabetic, to_ascii_lowercase}
use Rattle.dl_base.specs.Limits.{most_name_bytes}
use Rattle.dl_base.specs.Name.{is_name_byte}
use Rattle.sql_lex.specs.declared.lexeme.LexKind.{LexKind}
use Rattle.sql_lex.specs.declared.lexeme.LexKind.TheVariants.{Word, Number, Literal, Sign}
use Rattle.sql_lex.specs.declared.lexeme.Lexeme.{Lexeme}
use Rattle.dl_base.specs.Blank.{is_blank}
use Rattle.sql_lex.specs.Spelling.{is_literal_byte, begins, number_bound}

-- a lexeme and its length
abbrev pub Front : Type 0
Front = Option (LexKind × ℕ)

abbrev pub word_front : List ℕ → Front
word_front bs = let n = prefix_len is_name_byte bs in if nat_le n most_name_bytes then Some (Word (map to_ascii_lowercase (take n bs)), n) else None

-- the number that decimal digits say, behind digits of value v
abbrev pub decimal_from : ℕ → List ℕ → ℕ
decimal_from v [] = v
decimal_from v (d ∷ ds) = decimal_from (10 * v + (d - 48)) ds

abbrev pub decimal_below : List ℕ → Option ℕ
decimal_below ds = if nat_lt (decimal_from 0 ds) number_bound then Some (decimal_from 0 ds) else None

abbrev pub number_front : List ℕ → Front
number_front bs =
    let n = prefix_len is_ascii_digit bs in
    let v = decimal_from 0 (take n bs) in
    if nat_lt v number_bound then Some (Number (pos v), n) else None

-- one more byte of a literal
abbrev pub with_byte : ℕ → Option (List ℕ × ℕ) → Option (List ℕ × ℕ)
with_byte b None = None
with_byte b (Some t) = Some (b ∷ t.0, suc t.1)

abbrev pub one_longer : Option (List ℕ × ℕ) → Option (List ℕ × ℕ)
one_longer None = None
one_longer (Some t) = Some (t.0, suc t.1)

-- the text of a literal behind its first quote, and the bytes up to its end; or behind a quote that may be its end
abbrev pub literal_text : Bool → List ℕ → Option (List ℕ × ℕ)
literal_text false [] = None
literal_text true [] = Some ([], 0)
literal_text false (b ∷ bs) = if b == 39 then one_longer (literal_text true bs) else (if is_literal_byte b then with_byte b (literal_text false bs) else None)
literal_text true (b ∷ bs) = if b == 39 then with_byte 39 (literal_text false bs) else Some ([], 0)

abbrev pub literal_front : Option (List ℕ × ℕ) → Front
literal_front None = None
literal_front (Some t) = Some (Literal t.0, suc t.1)

abbrev pub sign_front : ℕ → List ℕ → Front
sign_front b bs =
    if b == 60 then (if begins (λ c. c == 62) bs then Some (Sign 10, 2) else (if begins (λ c. c == 61) bs then Some (Sign 12, 2) else Some (Sign 11, 1)))
    else (if b == 62 then (if begins (λ c. c == 61) bs then Some (Sign 14, 2) else Some (Sign 13, 1))
    else (if b == 40 then Some (Sign 0, 1) else (if b == 41 then Some (Sign 1, 1) else (if b == 44 then Some (Sign 2, 1)
    else (if b == 46 then Some (Sign 3, 1) else (if b == 59 then Some (Sign 4, 1) else (if b == 42 then Some (Sign 5, 1)
    else (if b == 43 then Some (Sign 6, 1) else (if b == 45 then Some (Sign 7, 1) else (if b == 47 then Some (Sign 8, 1)
    else (if b == 61 then Some (Sign 9, 1) else None)))))))))))

-- the lexeme at the front
unfoldable pub front : List ℕ → Front
front [] = None
front (b ∷ bs) =
    if is_ascii_alphabetic b then word_front (b ∷ bs)
    else (if is_ascii_digit b then number_front (b ∷ bs)
    else (if b == 39 then literal_front (literal_text false bs)
    else sign_front b bs))

abbrev pub with_lexeme : Lexeme → Result (List Lexeme) ℕ → Result (List Lexeme) ℕ
with_lexeme x (Ok xs) = Ok (x ∷ xs)
with_lexeme x (Err k) = Err k

-- a lexeme that begins at a place, and what follows its bytes
abbrev pub place_front : Front → ℕ → (ℕ → Result (List Lexeme) ℕ) → Result (List Lexeme) ℕ
place_front None at next = Err at
place_front (Some f) at next = with_lexeme (record { kind = f.0; begin = at; end = at + f.1 }) (next (f.1 - 1))

-- the lexemes of the bytes behind the next `skip` ones, or the place of the first byte that begins none
abbrev pub scan : ℕ → ℕ → List ℕ → Result (List Lexeme) ℕ
scan skip at [] = Ok []
scan (suc skip) at (b ∷ bs) = scan skip (suc at) bs
scan zero at (b ∷ bs) = if is_blank b then scan zero (suc at) bs else place_front (front (b ∷ bs)) at (λ k. scan k (suc at) bs)
