-- The form of a token is a token's text.
use Rattle.std.proofs.Common.{◌≡◌, ℕ, ◌+◌, ◌^◌, ◌<◌, ◌≤◌, ◌==◌, true, false, ◌&&◌, nat_lt, nat_le, List, [], ◌∷◌, ◌++◌, length, take, drop, get_or, decimal, Some, Result, refl, sym, ap, subst, ◌∙◌, arith, inl, inr, append_assoc, length-append, length-take}
use Rattle.std.specs.Char.{is_ascii_digit, digit_value}
use Rattle.std.specs.List.{list_all}
use Rattle.std.specs.Str.Parse.{AllDigits, digits_value}
use Rattle.std.proofs.lemmas.Bool.{and_parts, and_from, and_left, and_right, cases_eq, eqb-true, eq-eqb, ltb-true, lt-ltb, leb-true, le-leb, not_from_false, ne_eqb}
use Rattle.std.proofs.lemmas.Fmt.{decimal_is_IsNumeral, decimal_digit, first_decimal, decimal-digits_value}
use Rattle.std.proofs.lemmas.Str.Parse.{numerals_by_value, tells_digits, digit_from_value}
use Rattle.std.proofs.lemmas.List.{take-append-drop, take_at, drop_at, drop-drop}
use Rattle.std.specs.Result.{result_ok}
use Rattle.hex.specs.Hex.{encode_lower, decode_of, decode_sized, IsBytes}
use Rattle.hex.specs.declared.error.FromHexError.{FromHexError}
use Rattle.hex.proofs.HexLemmas.{length-encode_with, decode_of-encode_lower}
use Rattle.hex.specs.Hex.{lower_digits}
use Rattle.dl_base.specs.declared.file.Token.{Token}
use Rattle.dl_token.specs.Tokens.{IsToken, token_text, digit_count, has_no_leading_zero, is_expiry, is_lower_hex, goes_on, has_mac, begins_with_token, token_of, decoded}
use Rattle.dl_token.proofs.Digits.{front_digits}
use Rattle.dl_token.proofs.Hexes.{encoded_is_lower, decodes, decodes_sized, is_spelled, IsSpelled}

-- ---- the expiry

digit_is_ascii : (c : ℕ) → digit_value c < 10 → is_ascii_digit c ≡ true
digit_is_ascii c lt = let range = digit_from_value c lt in grind arith

pub all_ascii : (ds : List ℕ) → AllDigits 10 ds → list_all is_ascii_digit ds ≡ true
all_ascii [] all = refl
all_ascii (d ∷ ds) all = and_from (is_ascii_digit d) (list_all is_ascii_digit ds) (digit_is_ascii d all.0) (all_ascii ds all.1)

-- digits, and then no digit
count_of : (ds : List ℕ) (c : ℕ) (rest : List ℕ) → list_all is_ascii_digit ds ≡ true → is_ascii_digit c ≡ false → digit_count (ds ++ c ∷ rest) ≡ length ds
count_of [] c rest all other = rw other refl
count_of (d ∷ ds) c rest all other =
    let parts = and_parts (is_ascii_digit d) (list_all is_ascii_digit ds) all in
    let more = count_of ds c rest parts.1 other in
    rw parts.0 (omega (arith, more))

no_zero : (ds : List ℕ) → 0 < length ds → (get_or ds 0 0 ≡ 48 → length ds ≡ 1) → has_no_leading_zero ds ≡ true
no_zero [] some lone = absurd (omega arith)
no_zero (d ∷ []) some lone = refl
no_zero (d ∷ e ∷ ds) some lone = not_from_false (d == 48) (ne_eqb d 48 (λ is. let two = lone is in absurd (omega arith)))

zero_alone : (ds : List ℕ) → has_no_leading_zero ds ≡ true → get_or ds 0 0 ≡ 48 → length ds ≡ 1
zero_alone [] has is = grind arith
zero_alone (d ∷ []) has is = refl
zero_alone (d ∷ e ∷ ds) has is = let same = eq-eqb d 48 is in grind arith

not_empty : (ds : List ℕ) → has_no_leading_zero ds ≡ true → 0 < length ds
not_empty [] has = grind arith
not_empty (d ∷ ds) has = omega arith

lone_zero : (n : ℕ) → n < 2 ^ 64 → get_or (decimal n) 0 0 ≡ 48 → length (decimal n) ≡ 1
lone_zero n small is =
    elim (cases_eq n 0) [
      | inl none ↦ ap (λ (k : ℕ). length (decimal k)) none ∙ ap length (decimal_digit 0 (omega arith))
      | inr some ↦ let first = first_decimal n (omega arith) small in absurd (omega arith)
    ]

expiry_of : (n : ℕ) → n < 2 ^ 64 → is_expiry (decimal n) ≡ true
expiry_of n small =
    let numeral = decimal_is_IsNumeral n small in
    and_from (has_no_leading_zero (decimal n)) (nat_lt (digits_value 10 (decimal n)) (2 ^ 64))
    (no_zero (decimal n) numeral.0.0 (lone_zero n small)) (lt-ltb _ _ (omega (arith, numeral.1, small)))

pub record IsWritten (ds : List ℕ) : Type 0 where
  pub small : digits_value 10 ds < 2 ^ 64
  pub same : decimal (digits_value 10 ds) ≡ ds

written_of : (ds : List ℕ) → AllDigits 10 ds → is_expiry ds ≡ true → IsWritten ds
written_of ds all is =
    let parts = and_parts (has_no_leading_zero ds) (nat_lt (digits_value 10 ds) (2 ^ 64)) is in
    let small : digits_value 10 ds < 2 ^ 64 = ltb-true _ _ parts.1 in
    let some = not_empty ds parts.0 in
    record {
      small = small;
      same = decimal-digits_value (numerals_by_value (AllDigits 10) tells_digits) ds all some (zero_alone ds parts.0) small;
    }

-- ---- the mac

goes_on_of : (more : List ℕ) → 0 < length more → goes_on (59 ∷ more) ≡ true
goes_on_of [] some = absurd (omega arith)
goes_on_of (c ∷ more) some = refl

pub record GoesOn (cs : List ℕ) : Type 0 where
  pub first : cs ≡ 59 ∷ drop 1 cs
  pub some : 0 < length (drop 1 cs)

goes_on_from : (cs : List ℕ) → goes_on cs ≡ true → GoesOn cs
goes_on_from [] is = grind arith
goes_on_from (b ∷ []) is = grind arith
goes_on_from (b ∷ c ∷ more) is = record { first = ap (λ (x : ℕ). x ∷ c ∷ more) (eqb-true b 59 is); some = omega arith }

mac_of : (mac more : List ℕ) → length mac ≡ 16 → IsBytes mac → 0 < length more → has_mac (46 ∷ (encode_lower mac ++ 59 ∷ more)) ≡ true
mac_of mac more sized is some =
    let len : length (encode_lower mac) ≡ 32 = omega (arith, length-encode_with lower_digits mac, sized) in
    let front : take 32 (encode_lower mac ++ 59 ∷ more) ≡ encode_lower mac = take_at (encode_lower mac) (59 ∷ more) 32 len in
    let back : drop 32 (encode_lower mac ++ 59 ∷ more) ≡ 59 ∷ more = drop_at (encode_lower mac) (59 ∷ more) 32 len in
    let long : nat_le 32 (length (encode_lower mac ++ 59 ∷ more)) ≡ true = le-leb _ _ (omega (arith, len, length-append (encode_lower mac) (59 ∷ more))) in
    let lower : list_all is_lower_hex (take 32 (encode_lower mac ++ 59 ∷ more)) ≡ true = ap (list_all is_lower_hex) front ∙ encoded_is_lower mac is in
    and_from _ _ (and_from _ _ (and_from _ _ refl long) lower) (ap goes_on back ∙ goes_on_of more some)

pub record HasMac (bs : List ℕ) : Type 0 where
  pub sized : length (take 32 (drop 1 bs)) ≡ 32
  pub lower : list_all is_lower_hex (take 32 (drop 1 bs)) ≡ true
  pub same : bs ≡ 46 ∷ (take 32 (drop 1 bs) ++ 59 ∷ drop 34 bs)
  pub some : 0 < length (drop 34 bs)

mac_from : (bs : List ℕ) → has_mac bs ≡ true → HasMac bs
mac_from [] is = grind arith
mac_from (b ∷ bs) is =
    let last = and_parts (b == 46 && nat_le 32 (length bs) && list_all is_lower_hex (take 32 bs)) (goes_on (drop 32 bs)) is in
    let third = and_parts (b == 46 && nat_le 32 (length bs)) (list_all is_lower_hex (take 32 bs)) last.0 in
    let second = and_parts (b == 46) (nat_le 32 (length bs)) third.0 in
    let on = goes_on_from (drop 32 bs) last.1 in
    let rest : drop 1 (drop 32 bs) ≡ drop 33 bs = drop-drop 1 32 bs in
    let long = leb-true 32 (length bs) second.1 in
    let behind : drop 32 bs ≡ 59 ∷ drop 33 bs = on.first ∙ ap (λ (cs : List ℕ). 59 ∷ cs) rest in
    record {
      sized = omega (arith, long, length-take 32 bs);
      lower = third.1;
      same =
          ap (λ (x : ℕ). x ∷ bs) (eqb-true b 46 second.0)
          ∙ ap (λ (cs : List ℕ). 46 ∷ cs) (sym (take-append-drop 32 bs))
          ∙ ap (λ (cs : List ℕ). 46 ∷ (take 32 bs ++ cs)) behind;
      some = omega (arith, on.some, ap length rest);
    }

-- ---- the name

-- the name begins with this token, and more stands behind its semicolon
pub record IsNamed (name : List ℕ) (token : Token) (more : List ℕ) : Type 0 where
  pub begins : begins_with_token name ≡ true
  pub token_is : token_of name ≡ token
  pub behind : drop (digit_count name + 34) name ≡ more

abbrev pub made : ℕ → List ℕ → Token
made expiry mac = record { expiry = expiry; mac = mac }

named_at : (token : Token) (more : List ℕ) → IsToken token → 0 < length more
    → IsNamed (decimal token.expiry ++ (46 ∷ (encode_lower token.mac ++ 59 ∷ more))) token more
unfolding begins_with_token
named_at token more is some =
    let digits : List ℕ = decimal token.expiry in
    let hexes : List ℕ = encode_lower token.mac in
    let tail : List ℕ = 46 ∷ (hexes ++ 59 ∷ more) in
    let name : List ℕ = digits ++ tail in
    let numeral = decimal_is_IsNumeral token.expiry is.expiry in
    let len : length hexes ≡ 32 = omega (arith, length-encode_with lower_digits token.mac, is.sized) in
    let count : digit_count name ≡ length digits = count_of digits 46 (hexes ++ 59 ∷ more) (all_ascii digits numeral.0.1) refl in
    let front : take (digit_count name) name ≡ digits = take_at digits tail (digit_count name) (sym count) in
    let back : drop (digit_count name) name ≡ tail = drop_at digits tail (digit_count name) (sym count) in
    let after_dot : drop (digit_count name + 1) name ≡ hexes ++ 59 ∷ more = sym (drop-drop 1 (digit_count name) name) ∙ ap (drop 1) back in
    let spelled : take 32 (drop (digit_count name + 1) name) ≡ hexes = ap (take 32) after_dot ∙ take_at hexes (59 ∷ more) 32 len in
    let expiry : digits_value 10 (take (digit_count name) name) ≡ token.expiry = ap (digits_value 10) front ∙ numeral.1 in
    let mac : decoded (decode_of (take 32 (drop (digit_count name + 1) name))) ≡ token.mac =
    ap (λ (ds : List ℕ). decoded (decode_of ds)) spelled ∙ ap decoded (decode_of-encode_lower token.mac is.bytes) in
    let semicolon : drop 32 (hexes ++ 59 ∷ more) ≡ 59 ∷ more = drop_at hexes (59 ∷ more) 32 len in
    record {
      begins = and_from _ _ (ap is_expiry front ∙ expiry_of token.expiry is.expiry) (ap has_mac back ∙ mac_of token.mac more is.sized is.bytes some);
      token_is = ap (λ (e : ℕ). made e (decoded (decode_of (take 32 (drop (digit_count name + 1) name))))) expiry ∙ ap (made token.expiry) mac;
      behind =
          sym (drop-drop 34 (digit_count name) name) ∙ ap (drop 34) back ∙ sym (drop-drop 1 32 (hexes ++ 59 ∷ more)) ∙ ap (drop 1) semicolon;
    }

pub named : (token : Token) (more : List ℕ) → IsToken token → 0 < length more → IsNamed (token_text token ++ 59 ∷ more) token more
named token more is some =
    let P : List ℕ → Type 0 = λ name. IsNamed name token more in
    let shape : decimal token.expiry ++ (46 ∷ (encode_lower token.mac ++ 59 ∷ more)) ≡ token_text token ++ 59 ∷ more =
    sym (append_assoc (decimal token.expiry) (46 ∷ encode_lower token.mac) (59 ∷ more)) in
    subst P shape (named_at token more is some)

pub record IsOfToken (name : List ℕ) : Type 0 where
  pub is_token : IsToken (token_of name)
  pub same : name ≡ token_text (token_of name) ++ 59 ∷ drop (digit_count name + 34) name
  pub some : 0 < length (drop (digit_count name + 34) name)

pub of_token : (name : List ℕ) → begins_with_token name ≡ true → IsOfToken name
unfolding begins_with_token
of_token name begins =
    let digits : List ℕ = take (digit_count name) name in
    let rest : List ℕ = drop (digit_count name) name in
    let parts = and_parts (is_expiry digits) (has_mac rest) begins in
    let written = written_of digits (front_digits name) parts.0 in
    let has = mac_from rest parts.1 in
    let after_dot : drop 1 rest ≡ drop (digit_count name + 1) name = drop-drop 1 (digit_count name) name in
    let behind : drop 34 rest ≡ drop (digit_count name + 34) name = drop-drop 34 (digit_count name) name in
    let hexes : take 32 (drop 1 rest) ≡ take 32 (drop (digit_count name + 1) name) = ap (take 32) after_dot in
    let spelled : IsSpelled 16 (take 32 (drop (digit_count name + 1) name)) (token_of name).mac =
    is_spelled 16 (take 32 (drop (digit_count name + 1) name)) (omega (arith, has.sized, ap length hexes)) (ap (list_all is_lower_hex) (sym hexes) ∙ has.lower) in
    let whole : digits ++ rest ≡ name = take-append-drop (digit_count name) name in
    let assoc = append_assoc (decimal (token_of name).expiry) (46 ∷ encode_lower (token_of name).mac) (59 ∷ drop (digit_count name + 34) name) in
    let tail : rest ≡ 46 ∷ (encode_lower (token_of name).mac ++ 59 ∷ drop (digit_count name + 34) name) =
    has.same ∙ ap (λ (ds : List ℕ). 46 ∷ (ds ++ 59 ∷ drop 34 rest)) (hexes ∙ sym spelled.written)
    ∙ ap (λ (ds : List ℕ). 46 ∷ (encode_lower (token_of name).mac ++ 59 ∷ ds)) behind in
    record {
      is_token = record { expiry = written.small; sized = spelled.sized; bytes = spelled.is_bytes };
      same = sym whole ∙ ap (λ (ds : List ℕ). ds ++ rest) (sym written.same) ∙ ap (λ (ds : List ℕ). decimal (token_of name).expiry ++ ds) tail ∙ sym assoc;
      some = omega (arith, has.some, ap length behind);
    }

-- ---- what the functions that read a name put together

pub mac_read : (digits : List ℕ) → length digits ≡ 32 → list_all is_lower_hex digits ≡ true → result_ok (decode_sized digits 16) ≡ Some (decoded (decode_of digits))
mac_read digits len all = ap result_ok (decodes_sized 16 digits len all) ∙ ap (λ (r : Result (List ℕ) FromHexError). Some (decoded r)) (sym (decodes 16 digits len all))

pub mac_found : (bs rest hexes behind : List ℕ) → bs ≡ 46 ∷ rest → 32 ≤ length rest → hexes ≡ take 32 rest → behind ≡ drop 32 rest
    → list_all is_lower_hex hexes ≡ true → goes_on behind ≡ true → has_mac bs ≡ true
mac_found bs rest hexes behind whole long front back lower on =
    ap has_mac whole
    ∙ and_from _ _ (and_from _ _ (and_from _ _ refl (le-leb 32 (length rest) long)) (ap (list_all is_lower_hex) (sym front) ∙ lower)) (ap goes_on (sym back) ∙ on)

pub mac_absent : (bs rest hexes behind : List ℕ) → bs ≡ 46 ∷ rest → hexes ≡ take 32 rest → list_all is_lower_hex hexes ≡ false → has_mac bs ≡ false
mac_absent bs rest hexes behind whole front lower =
    ap has_mac whole ∙ and_left _ _ (and_right _ _ (ap (list_all is_lower_hex) (sym front) ∙ lower))

pub behind_mac : (bs rest behind : List ℕ) → bs ≡ 46 ∷ rest → behind ≡ drop 32 rest → drop 1 behind ≡ drop 34 bs
behind_mac bs rest behind whole back = ap (drop 1) back ∙ drop-drop 1 32 rest ∙ ap (drop 34) (sym whole)

pub record IsRead (name : List ℕ) (expiry : ℕ) (mac more : List ℕ) : Type 0 where
  pub begins : begins_with_token name ≡ true
  pub token_is : made expiry mac ≡ token_of name
  pub behind : more ≡ drop (digit_count name + 34) name

pub read_name : (name digits rest : List ℕ) (k expiry : ℕ) (mac more : List ℕ) → k ≡ digit_count name → digits ≡ take k name → rest ≡ drop k name
    → is_expiry digits ≡ true → has_mac rest ≡ true → expiry ≡ digits_value 10 digits → mac ≡ decoded (decode_of (take 32 (drop 1 rest)))
    → more ≡ drop 34 rest → IsRead name expiry mac more
unfolding begins_with_token
read_name name digits rest k expiry mac more count front back is has expiry_is mac_is more_is =
    let front_is : digits ≡ take (digit_count name) name = front ∙ ap (λ (n : ℕ). take n name) count in
    let back_is : rest ≡ drop (digit_count name) name = back ∙ ap (λ (n : ℕ). drop n name) count in
    let after_dot : drop 1 rest ≡ drop (digit_count name + 1) name = ap (drop 1) back_is ∙ drop-drop 1 (digit_count name) name in
    record {
      begins = and_from _ _ (ap is_expiry (sym front_is) ∙ is) (ap has_mac (sym back_is) ∙ has);
      token_is =
          ap (λ (e : ℕ). made e mac) (expiry_is ∙ ap (digits_value 10) front_is)
          ∙ ap (made (digits_value 10 (take (digit_count name) name))) (mac_is ∙ ap (λ (ds : List ℕ). decoded (decode_of (take 32 ds))) after_dot);
      behind = more_is ∙ ap (drop 34) back_is ∙ drop-drop 34 (digit_count name) name;
    }

pub no_expiry : (name digits : List ℕ) (k : ℕ) → k ≡ digit_count name → digits ≡ take k name → is_expiry digits ≡ false → begins_with_token name ≡ false
unfolding begins_with_token
no_expiry name digits k count front is = and_left _ _ (ap is_expiry (ap (λ (n : ℕ). take n name) (sym count) ∙ sym front) ∙ is)

pub no_mac : (name rest : List ℕ) (k : ℕ) → k ≡ digit_count name → rest ≡ drop k name → has_mac rest ≡ false → begins_with_token name ≡ false
unfolding begins_with_token
no_mac name rest k count back has = and_right _ _ (ap has_mac (ap (λ (n : ℕ). drop n name) (sym count) ∙ sym back) ∙ has)
