-- A lexeme as it is written is spelled so.
use Rattle.std.proofs.Common.{◌≡◌, ℕ, ◌<◌, ◌^◌, true, List, [], ◌∷◌, map, Some, pos, refl, sym, ap, ◌∙◌, subst, arith}
use Rattle.std.specs.List.{All, list_all}
use Rattle.std.specs.Char.{is_ascii_alphabetic, to_ascii_lowercase, to_ascii_uppercase}
use Rattle.std.specs.Fmt.{decimal, signed_decimal}
use Rattle.std.specs.Str.Parse.{digits_value}
use Rattle.std.proofs.lemmas.Bool.Decides.{nat_tests}
use Rattle.std.proofs.lemmas.Fmt.{decimal_is_IsNumeral}
use Rattle.std.proofs.lemmas.List.{length-map}
use Rattle.std.proofs.lemmas.List.Elements.{All-nil, All-cons}
use Rattle.std.proofs.lemmas.Option.{get_or_from_slice_get}
use Rattle.std.proofs.lemmas.Str.Ascii.{lowercase-lowercase, lowercase-uppercase}
use Rattle.dl_base.specs.Name.{IsName, is_name_byte}
use Rattle.sql_lex.specs.declared.lexeme.LexKind.{LexKind}
use Rattle.sql_lex.specs.declared.lexeme.LexKind.TheVariants.{Word, Number, Literal, Sign}
use Rattle.sql_lex.specs.declared.lexeme.Lexeme.{Lexeme}
use Rattle.sql_lex.specs.Spelling.{IsSpelled, begins, signs, Spells}
use Rattle.sql_lex.specs.Lexes.{Lexes}
use Rattle.sql_lex.specs.Joined.{written}
use Rattle.sql_lex.proofs.Bools.{and_left, and_right}
use Rattle.sql_lex.proofs.Words.{is_name, name_is, folded_name}

-- ---- words

folded_twice : (bs : List ℕ) → map to_ascii_lowercase (map to_ascii_lowercase bs) ≡ map to_ascii_lowercase bs
folded_twice [] = refl
folded_twice (b ∷ bs) = (λ i. lowercase-lowercase b i ∷ folded_twice bs i)

folded_capitals : (bs : List ℕ) → map to_ascii_lowercase (map to_ascii_uppercase bs) ≡ map to_ascii_lowercase bs
folded_capitals [] = refl
folded_capitals (b ∷ bs) = (λ i. lowercase-uppercase b i ∷ folded_capitals bs i)

capital_byte : (b : ℕ) → is_name_byte b ≡ true → is_name_byte (to_ascii_uppercase b) ≡ true
capital_byte b e = grind (arith, nat_tests)

capital_letter : (b : ℕ) → is_ascii_alphabetic b ≡ true → is_ascii_alphabetic (to_ascii_uppercase b) ≡ true
capital_letter b e = grind (arith, nat_tests)

capital_all : (bs : List ℕ) → list_all is_name_byte bs ≡ true → list_all is_name_byte (map to_ascii_uppercase bs) ≡ true
capital_all [] h = refl
capital_all (b ∷ bs) h = rw (capital_byte b (and_left (is_name_byte b) _ h)) (capital_all bs (and_right (is_name_byte b) _ h))

capital_first : (bs : List ℕ) → begins is_ascii_alphabetic bs ≡ true → begins is_ascii_alphabetic (map to_ascii_uppercase bs) ≡ true
capital_first [] h = h
capital_first (b ∷ bs) h = capital_letter b h

capital_name : (bs : List ℕ) → IsName bs → IsName (map to_ascii_uppercase bs)
capital_name bs h =
    let is = name_is bs h in
    is_name (map to_ascii_uppercase bs) (omega (arith, is.0, length-map bs to_ascii_uppercase)) (capital_first bs is.1) (capital_all bs is.2)

-- a word is a name, and stays as it is when it is folded again
word_is : (w : List ℕ) → IsSpelled (Word w) → IsName w × (w ≡ map to_ascii_lowercase w)
word_is w (body, is) =
    (subst IsName (sym is.1) (folded_name body is.0), is.1 ∙ sym (folded_twice body) ∙ ap (map to_ascii_lowercase) (sym is.1))

pub capitals_spell : (w : List ℕ) → IsSpelled (Word w) → Spells (Word w) (map to_ascii_uppercase w)
capitals_spell w h = let is = word_is w h in (capital_name w is.0, is.1 ∙ sym (folded_capitals w))

-- ---- every lexeme

number_spells : (n : ℕ) → n < 2 ^ 63 → Spells (Number (pos n)) (decimal n)
number_spells n small =
    let is = decimal_is_IsNumeral n (omega (arith, small)) in
    (is.0, omega (arith, is.1, small), ap pos (sym is.1))

pub written_spells : (kind : LexKind) → IsSpelled kind → Spells kind (written kind)
written_spells (Word w) h = word_is w h
written_spells (Number z) (body, is) = subst (λ z. Spells (Number z) (signed_decimal z)) (sym is.2) (number_spells (digits_value 10 body) is.1)
written_spells (Literal t) (body, is) = (is.0, refl)
written_spells (Sign k) (body, at) = at ∙ ap (λ (s : List ℕ). Some s) (sym (get_or_from_slice_get signs k body [] at))

pub all_spelled : (xs : List Lexeme) (at : ℕ) (bs : List ℕ) → Lexes at bs xs → All (λ x. IsSpelled x.kind) xs
all_spelled [] at bs h = All-nil (λ x. IsSpelled x.kind)
all_spelled (x ∷ xs) at bs (gap, body, rest, parts, blank, is, begin, end, more) = All-cons (λ x. IsSpelled x.kind) x xs (body, is.0) (all_spelled xs x.end rest more)
