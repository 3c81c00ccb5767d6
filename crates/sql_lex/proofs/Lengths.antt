-- The lexeme that is found at the front is the longest that is spelled there.
use Rattle.std.proofs.Common.{◌≡◌, ℕ, zero, suc, ◌^◌, ◌≤◌, Bool, true, false, cond, leb, ltb, ◌==◌, List, [], ◌∷◌, ◌++◌, length, take, Option, Some, None, refl, sym, ap, ◌∙◌, subst, arith}
use Rattle.std.specs.List.{prefix_len, list_all, slice_get}
use Rattle.std.specs.Char.{is_ascii_digit, is_ascii_alphabetic}
use Rattle.dl_base.specs.Name.{is_name_byte}
use Rattle.sql_lex.specs.declared.lexeme.LexKind.{LexKind}
use Rattle.sql_lex.specs.declared.lexeme.LexKind.TheVariants.{Word, Number, Literal, Sign}
use Rattle.sql_lex.specs.Spelling.{is_literal_byte, doubled, quoted, signs, Spells, IsFront}
use Rattle.sql_lex.specs.Scan.{Front, decimal_from, with_byte, one_longer, literal_text, literal_front, front}
use Rattle.sql_lex.proofs.Bools.{cond_true, cond_false, and_left, and_right}
use Rattle.sql_lex.proofs.Runs.{run_some}
use Rattle.sql_lex.proofs.Words.{name_is}
use Rattle.sql_lex.proofs.Numbers.{number_is}
use Rattle.sql_lex.proofs.Found.{Found}
use Rattle.sql_lex.proofs.Fronts.{digit_no_letter, front_found, front_again}
use Rattle.sql_lex.proofs.Scans.{no_empty}
use Rattle.sql_lex.proofs.Lexed.{len_within}

-- what was found has at least so many bytes
abbrev AtLeast : ℕ → Front → Type 0
AtLeast n None = Unit {0}
AtLeast n (Some f) = n ≤ f.1

least_if : (n : ℕ) (t : Bool) (x y : Front) → AtLeast n x → AtLeast n y → AtLeast n (cond t x y)
least_if n true x y h k = h
least_if n false x y h k = k

-- ---- words and numbers

run_least : (p : ℕ → Bool) (body rest : List ℕ) → list_all p body ≡ true → length body ≤ prefix_len p (body ++ rest)
run_least p [] rest h = omega arith
run_least p (b ∷ body) rest h = omega (arith, run_some p b (body ++ rest) (and_left (p b) (list_all p body) h), run_least p body rest (and_right (p b) (list_all p body) h))

word_least : (b : ℕ) (body rest w : List ℕ) → Spells (Word w) (b ∷ body) → AtLeast (length (b ∷ body)) (front ((b ∷ body) ++ rest))
unfolding front
word_least b body rest w s =
    let is = name_is (b ∷ body) s.0 in
    let n = prefix_len is_name_byte ((b ∷ body) ++ rest) in
    subst (AtLeast (length (b ∷ body))) (sym (cond_true (is_ascii_alphabetic b) _ _ is.1)) (least_if (length (b ∷ body)) (leb n 64) _ None (run_least is_name_byte (b ∷ body) rest is.2) tt)

number_least : (b : ℕ) (body rest : List ℕ) (z : _) → Spells (Number z) (b ∷ body) → AtLeast (length (b ∷ body)) (front ((b ∷ body) ++ rest))
unfolding front
number_least b body rest z s =
    let all : list_all is_ascii_digit (b ∷ body) ≡ true = (number_is z (b ∷ body) s).0 in
    let digit : is_ascii_digit b ≡ true = and_left (is_ascii_digit b) (list_all is_ascii_digit body) all in
    let n = prefix_len is_ascii_digit ((b ∷ body) ++ rest) in
    subst (AtLeast (length (b ∷ body))) (sym (cond_false (is_ascii_alphabetic b) _ _ (digit_no_letter b digit) ∙ cond_true (is_ascii_digit b) _ _ digit))
    (least_if (length (b ∷ body)) (ltb (decimal_from 0 (take n ((b ∷ body) ++ rest))) (2 ^ 63)) _ None (run_least is_ascii_digit (b ∷ body) rest all) tt)

-- ---- literals

abbrev TextAtLeast : ℕ → Option (List ℕ × ℕ) → Type 0
TextAtLeast n None = Unit {0}
TextAtLeast n (Some t) = n ≤ t.1

none_least : (o : Option (List ℕ × ℕ)) → TextAtLeast 0 o
none_least None = tt
none_least (Some t) = omega arith

longer_least : (n : ℕ) (o : Option (List ℕ × ℕ)) → TextAtLeast n o → TextAtLeast (suc n) (one_longer o)
longer_least n None h = tt
longer_least n (Some t) h = omega (arith, h)

byte_least : (n b : ℕ) (o : Option (List ℕ × ℕ)) → TextAtLeast n o → TextAtLeast (suc n) (with_byte b o)
byte_least n b None h = tt
byte_least n b (Some t) h = omega (arith, h)

either_least : (n : ℕ) (t : Bool) (o : Option (List ℕ × ℕ)) → TextAtLeast n o → TextAtLeast n (cond t o None)
either_least n true o h = h
either_least n false o h = tt

quoted_least : (t rest : List ℕ) → TextAtLeast (length (doubled t ++ 39 ∷ [])) (literal_text false ((doubled t ++ 39 ∷ []) ++ rest))
quoted_least [] rest = longer_least 0 (literal_text true rest) (none_least (literal_text true rest))
quoted_least (b ∷ t) rest = by_quote (b == 39) refl (quoted_least t rest)
  where
    by_quote : (q : Bool) → (b == 39) ≡ q → TextAtLeast (length (doubled t ++ 39 ∷ [])) (literal_text false ((doubled t ++ 39 ∷ []) ++ rest)) → TextAtLeast (length (cond q (39 ∷ 39 ∷ doubled t) (b ∷ doubled t) ++ 39 ∷ [])) (literal_text false ((cond q (39 ∷ 39 ∷ doubled t) (b ∷ doubled t) ++ 39 ∷ []) ++ rest))
    by_quote true e h =
        let n = length (doubled t ++ 39 ∷ []) in
        let o = literal_text false ((doubled t ++ 39 ∷ []) ++ rest) in
        longer_least (suc n) (with_byte 39 o) (byte_least n 39 o h)
    by_quote false e h =
        let n = length (doubled t ++ 39 ∷ []) in
        let o = literal_text false ((doubled t ++ 39 ∷ []) ++ rest) in
        rw e (either_least (suc n) (is_literal_byte b) (with_byte b o) (byte_least n b o h))

literal_least : (n : ℕ) (o : Option (List ℕ × ℕ)) → TextAtLeast n o → AtLeast (suc n) (literal_front o)
literal_least n None h = tt
literal_least n (Some t) h = omega (arith, h)

front_literal_least : (t rest : List ℕ) → AtLeast (length (quoted t)) (front (quoted t ++ rest))
unfolding front
front_literal_least t rest = literal_least (length (doubled t ++ 39 ∷ [])) (literal_text false ((doubled t ++ 39 ∷ []) ++ rest)) (quoted_least t rest)

-- ---- signs

some_least : (bs : List ℕ) → AtLeast 1 (front bs)
some_least bs = by_front (front bs) (front_found bs)
  where
    by_front : (f : Front) → Found bs f → AtLeast 1 f
    by_front None found = tt
    by_front (Some f) found = omega (arith, (len_within bs f.0 f.1 found).0)

one_byte : (b : ℕ) (body rest : List ℕ) → Some (b ∷ []) ≡ Some body → AtLeast (length body) (front (body ++ rest))
one_byte b body rest e = let same : b ∷ [] ≡ body = cc in subst (λ (x : List ℕ). AtLeast (length x) (front (x ++ rest))) same (some_least (b ∷ rest))

two_bytes : (b c k : ℕ) (body rest : List ℕ) → Some (b ∷ c ∷ []) ≡ Some body → front (b ∷ c ∷ rest) ≡ Some (Sign k, 2) → AtLeast (length body) (front (body ++ rest))
two_bytes b c k body rest e f =
    let same : b ∷ c ∷ [] ≡ body = cc in
    let two : AtLeast 2 (Some (Sign k, 2)) = omega arith in
    subst (λ (x : List ℕ). AtLeast (length x) (front (x ++ rest))) same (subst (AtLeast 2) (sym f) two)

pattern abbrev five+ : ℕ → ℕ
five+ n = suc (suc (suc (suc (suc n))))

sign_least : (k : ℕ) (body rest : List ℕ) → slice_get signs k ≡ Some body → AtLeast (length body) (front (body ++ rest))
unfolding front
sign_least zero body rest s = one_byte 40 body rest s
sign_least (suc zero) body rest s = one_byte 41 body rest s
sign_least (suc (suc zero)) body rest s = one_byte 44 body rest s
sign_least (suc (suc (suc zero))) body rest s = one_byte 46 body rest s
sign_least (suc (suc (suc (suc zero)))) body rest s = one_byte 59 body rest s
sign_least (five+ zero) body rest s = one_byte 42 body rest s
sign_least (five+ (suc zero)) body rest s = one_byte 43 body rest s
sign_least (five+ (suc (suc zero))) body rest s = one_byte 45 body rest s
sign_least (five+ (suc (suc (suc zero)))) body rest s = one_byte 47 body rest s
sign_least (five+ (suc (suc (suc (suc zero))))) body rest s = one_byte 61 body rest s
sign_least (five+ (five+ zero)) body rest s = two_bytes 60 62 10 body rest s refl
sign_least (five+ (five+ (suc zero))) body rest s = one_byte 60 body rest s
sign_least (five+ (five+ (suc (suc zero)))) body rest s = two_bytes 60 61 12 body rest s refl
sign_least (five+ (five+ (suc (suc (suc zero))))) body rest s = one_byte 62 body rest s
sign_least (five+ (five+ (suc (suc (suc (suc zero)))))) body rest s = two_bytes 62 61 14 body rest s refl
sign_least (five+ (five+ (five+ k))) body rest s = absurd cc

-- ---- every lexeme

front_least : (kind : LexKind) (body rest : List ℕ) → Spells kind body → AtLeast (length body) (front (body ++ rest))
front_least kind [] rest s = absurd (no_empty kind s)
front_least (Word w) (b ∷ body) rest s = word_least b body rest w s
front_least (Number z) (b ∷ body) rest s = number_least b body rest z s
front_least (Literal t) (b ∷ body) rest s = subst (λ (x : List ℕ). AtLeast (length x) (front (x ++ rest))) (sym s.1) (front_literal_least t rest)
front_least (Sign k) (b ∷ body) rest s = sign_least k (b ∷ body) rest s

pub front_longest : (kind other : LexKind) (body rest spelled left : List ℕ) → IsFront kind body rest → Spells other spelled → spelled ++ left ≡ body ++ rest → length spelled ≤ length body
front_longest kind other body rest spelled left is s parts = subst (AtLeast (length spelled)) (ap front parts ∙ front_again kind body rest is) (front_least other spelled left s)
