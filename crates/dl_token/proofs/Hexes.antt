-- Lower-case hexadecimal digits: what they spell is written by them.
use Rattle.std.proofs.Common.{◌≡◌, ℕ, zero, suc, ◌+◌, ◌-◌, ◌*◌, ◌/◌, ◌%◌, ◌<◌, ◌==◌, Bool, true, ◌&&◌, ◌||◌, not, nat_lt, cond, List, [], ◌∷◌, length, slice_index, Ok, refl, sym, ap, ◌∙◌, arith, subst}
use Rattle.std.proofs.lemmas.Bool.{and_parts, and_from, agree_below_at, eqb-true, ltb-true}
use Rattle.std.specs.List.{list_all}
use Rattle.hex.specs.Hex.{encode_lower, encode_with, lower_digits, decode_of, decode_sized, IsBytes}
use Rattle.hex.proofs.HexLemmas.{decode_of-encode_lower, decode_sized-encode_lower}
use Rattle.dl_token.specs.Tokens.{is_lower_hex, decoded}

-- the value of a lower-case digit
abbrev hex_value : ℕ → ℕ
hex_value c = cond (nat_lt c 58) (c - 48) (c - 87)

-- a byte that is no digit, or whose value is below 16 and written by it
abbrev is_written_back : ℕ → Bool
is_written_back c = not (is_lower_hex c) || (nat_lt (hex_value c) 16 && slice_index lower_digits (hex_value c) == c)

lower_hex_small : (c : ℕ) → is_lower_hex c ≡ true → c < 103
lower_hex_small c is = grind arith

unless : (a b : Bool) → (not a || b) ≡ true → a ≡ true → b ≡ true
unless a b h e = grind arith

written_back : (c : ℕ) → is_lower_hex c ≡ true → (hex_value c < 16) × (slice_index lower_digits (hex_value c) ≡ c)
written_back c is =
    let h = unless _ _ (agree_below_at is_written_back (λ _. true) 103 c refl (lower_hex_small c is)) is in
    let parts = and_parts (nat_lt (hex_value c) 16) (slice_index lower_digits (hex_value c) == c) h in
    (ltb-true _ _ parts.0, eqb-true _ _ parts.1)

-- the bytes that pairs of digits spell
abbrev bytes_of : List ℕ → List ℕ
bytes_of [] = []
bytes_of (h ∷ []) = []
bytes_of (h ∷ l ∷ rest) = (16 * hex_value h + hex_value l) ∷ bytes_of rest

pub record IsSpelled (n : ℕ) (digits bytes : List ℕ) : Type 0 where
  pub sized : length bytes ≡ n
  pub is_bytes : IsBytes bytes
  pub written : encode_lower bytes ≡ digits

bytes_cons : (b : ℕ) (bs : List ℕ) → b < 256 → IsBytes bs → IsBytes (b ∷ bs)
bytes_cons b bs small rest zero = small
bytes_cons b bs small rest (suc i) = rest i

pub spelled : (n : ℕ) (digits : List ℕ) → length digits ≡ 2 * n → list_all is_lower_hex digits ≡ true → IsSpelled n digits (bytes_of digits)
unfolding encode_with
spelled n [] len all = record { sized = omega arith; is_bytes = λ i. omega arith; written = refl }
spelled n (h ∷ []) len all = absurd (omega arith)
spelled n (h ∷ l ∷ rest) len all =
    let outer = and_parts (is_lower_hex h) (is_lower_hex l && list_all is_lower_hex rest) all in
    let inner = and_parts (is_lower_hex l) (list_all is_lower_hex rest) outer.1 in
    let high = written_back h outer.0 in
    let low = written_back l inner.0 in
    let more = spelled (n - 1) rest (omega arith) inner.1 in
    let quotient : (16 * hex_value h + hex_value l) / 16 ≡ hex_value h = omega (arith, high.0, low.0) in
    let remainder : (16 * hex_value h + hex_value l) % 16 ≡ hex_value l = omega (arith, high.0, low.0) in
    let first : slice_index lower_digits ((16 * hex_value h + hex_value l) / 16) ≡ h = ap (slice_index lower_digits) quotient ∙ high.1 in
    let second : slice_index lower_digits ((16 * hex_value h + hex_value l) % 16) ≡ l = ap (slice_index lower_digits) remainder ∙ low.1 in
    record {
      sized = omega (arith, more.sized);
      is_bytes = bytes_cons _ _ (omega (arith, high.0, low.0)) more.is_bytes;
      written =
          ap (λ (c : ℕ). c ∷ slice_index lower_digits ((16 * hex_value h + hex_value l) % 16) ∷ encode_lower (bytes_of rest)) first
          ∙ ap (λ (c : ℕ). h ∷ c ∷ encode_lower (bytes_of rest)) second
          ∙ ap (λ (cs : List ℕ). h ∷ l ∷ cs) more.written;
    }

-- what 2 * n lower-case digits decode to
pub decodes : (n : ℕ) (digits : List ℕ) → length digits ≡ 2 * n → list_all is_lower_hex digits ≡ true → decode_of digits ≡ Ok (bytes_of digits)
decodes n digits len all =
    let s = spelled n digits len all in
    ap decode_of (sym s.written) ∙ decode_of-encode_lower (bytes_of digits) s.is_bytes

pub decodes_sized : (n : ℕ) (digits : List ℕ) → length digits ≡ 2 * n → list_all is_lower_hex digits ≡ true → decode_sized digits n ≡ Ok (bytes_of digits)
decodes_sized n digits len all =
    let s = spelled n digits len all in
    ap (λ (ds : List ℕ). decode_sized ds n) (sym s.written) ∙ decode_sized-encode_lower (bytes_of digits) n s.sized s.is_bytes

pub is_spelled : (n : ℕ) (digits : List ℕ) → length digits ≡ 2 * n → list_all is_lower_hex digits ≡ true → IsSpelled n digits (decoded (decode_of digits))
is_spelled n digits len all =
    let P : List ℕ → Type 0 = λ bytes. IsSpelled n digits bytes in
    let e : bytes_of digits ≡ decoded (decode_of digits) = sym (ap decoded (decodes n digits len all)) in
    subst P e (spelled n digits len all)

-- ---- what is encoded is lower-case digits

digit_is_lower : (d : ℕ) → d < 16 → is_lower_hex (slice_index lower_digits d) ≡ true
digit_is_lower d lt = agree_below_at (λ (k : ℕ). is_lower_hex (slice_index lower_digits k)) (λ _. true) 16 d refl lt

pub encoded_is_lower : (bytes : List ℕ) → IsBytes bytes → list_all is_lower_hex (encode_lower bytes) ≡ true
unfolding encode_with
encoded_is_lower [] is = refl
encoded_is_lower (b ∷ bs) is =
    let small : b < 256 = is 0 in
    and_from _ _ (digit_is_lower (b / 16) (omega arith)) (and_from _ _ (digit_is_lower (b % 16) (omega arith)) (encoded_is_lower bs (λ i. is (suc i))))
