-- Tokens and the numbers of links as text, and what tokens are worth: what the definitions make of them.
use Rattle.std.proofs.Common.{◌≡◌, ◌+◌, ◌-◌, ◌*◌, ◌^◌, ℕ, true, false, List, [], ◌∷◌, ◌++◌, codes, Some, None, replicate, bytes_eq, refl}
use Rattle.std.specs.Cmp.Lexicographic.{bytes_decides}
use Rattle.std.specs.Fmt.{digits}
use Rattle.hex.specs.Hex.{encode_with, decode_pairs}
use Rattle.dl_base.specs.Path.{path_test}
use Rattle.dl_base.specs.declared.file.Token.{Token}
use Rattle.dl_base.specs.declared.value.LinkNo.{LinkNo}
use Rattle.dl_token.specs.Hmac.{padded}
use Rattle.dl_token.specs.Links.{transaction_text, link_text}
use Rattle.dl_token.specs.Tokens.{last_name, folder, token_text, with_token, has_token_form, begins_with_token, read_token, token_message, expiry_after, mac, token, verdict}
use Rattle.dl_token.specs.declared.verdict.Verdict.TheVariants.{Good, Wrong, Expired}

-- numbers as text

first_transaction : transaction_text (2 ^ 32 + 1) ≡ codes "1-1"
unfolding digits
first_transaction = refl

transaction_of_the_third_opening : transaction_text (3 * 2 ^ 32 + 250) ≡ codes "3-250"
unfolding digits
transaction_of_the_third_opening = refl

link_number : link_text (record { tx = 2 ^ 32 + 2; k = 13 }) ≡ codes "1-2-13"
unfolding digits
link_number = refl

-- the last name of a path, and what is before it

last_of_a_path : last_name (codes "/x/a.b") ≡ codes "a.b"
last_of_a_path = refl

before_the_last : folder (codes "/x/a.b") ≡ codes "/x/"
before_the_last = refl

no_slash : last_name (codes "a.b") ≡ codes "a.b"
no_slash = refl

nothing_before_the_last : folder (codes "a.b") ≡ []
nothing_before_the_last = refl

-- tokens as text

abbrev zeros : List ℕ
zeros = replicate 32 48

-- the token with 16 zero bytes
abbrev token_of_zeros : ℕ → Token
token_of_zeros expiry = record { expiry = expiry; mac = replicate 16 0 }

token_as_text : token_text (record { expiry = 160; mac = 0 ∷ 16 ∷ 171 ∷ 255 ∷ [] }) ≡ codes "160.0010abff"
unfolding digits encode_with
token_as_text = refl

path_with_token : with_token (codes "/x/a.b") (token_of_zeros 7) ≡ codes "/x/7." ++ zeros ++ codes ";a.b"
unfolding with_token digits encode_with
path_with_token = refl

-- the name that begins with these digits, a dot and 32 zeros
abbrev with_zeros : List ℕ → List ℕ
with_zeros expiry = expiry ++ codes "." ++ zeros ++ codes ";a"

form_of_a_name : has_token_form (codes "/x/" ++ with_zeros (codes "7")) ≡ true
unfolding begins_with_token
form_of_a_name = refl

folder_is_not_asked : has_token_form (with_zeros (codes "7") ++ codes "/b") ≡ false
unfolding begins_with_token
folder_is_not_asked = refl

expiry_zero : has_token_form (with_zeros (codes "0")) ≡ true
unfolding begins_with_token
expiry_zero = refl

leading_zero : has_token_form (with_zeros (codes "07")) ≡ false
unfolding begins_with_token
leading_zero = refl

no_expiry : has_token_form (with_zeros []) ≡ false
unfolding begins_with_token
no_expiry = refl

greatest_expiry : has_token_form (with_zeros (codes "18446744073709551615")) ≡ true
unfolding begins_with_token
greatest_expiry = refl

expiry_too_great : has_token_form (with_zeros (codes "18446744073709551616")) ≡ false
unfolding begins_with_token
expiry_too_great = refl

one_digit_less : has_token_form (codes "7." ++ replicate 31 48 ++ codes ";a") ≡ false
unfolding begins_with_token
one_digit_less = refl

one_digit_more : has_token_form (codes "7." ++ replicate 33 48 ++ codes ";a") ≡ false
unfolding begins_with_token
one_digit_more = refl

last_digit : has_token_form (codes "7.0123456789abcdef0123456789abcdef;a") ≡ true
unfolding begins_with_token
last_digit = refl

capital_digit : has_token_form (codes "7.0123456789abcdef0123456789abcdeF;a") ≡ false
unfolding begins_with_token
capital_digit = refl

no_hexadecimal_digit : has_token_form (codes "7.0123456789abcdef0123456789abcdeg;a") ≡ false
unfolding begins_with_token
no_hexadecimal_digit = refl

nothing_behind_the_semicolon : has_token_form (codes "7." ++ zeros ++ codes ";") ≡ false
unfolding begins_with_token
nothing_behind_the_semicolon = refl

no_semicolon : has_token_form (codes "7." ++ zeros ++ codes ",a") ≡ false
unfolding begins_with_token
no_semicolon = refl

-- a text read as path and token

read_back : read_token (codes "/x/7." ++ zeros ++ codes ";a.b") ≡ Some (codes "/x/a.b", token_of_zeros 7)
unfolding read_token begins_with_token path_test decode_pairs
read_back = refl

bytes_of_digits : read_token (codes "/160.00112233445566778899aabbccddeeff;a") ≡ Some (codes "/a", record { expiry = 160; mac = 0 ∷ 17 ∷ 34 ∷ 51 ∷ 68 ∷ 85 ∷ 102 ∷ 119 ∷ 136 ∷ 153 ∷ 170 ∷ 187 ∷ 204 ∷ 221 ∷ 238 ∷ 255 ∷ [] })
unfolding read_token begins_with_token path_test decode_pairs
bytes_of_digits = refl

no_token : read_token (codes "/x/a;b") ≡ None
unfolding read_token begins_with_token
no_token = refl

read_with_a_leading_zero : read_token (codes "/x/" ++ with_zeros (codes "07")) ≡ None
unfolding read_token begins_with_token
read_with_a_leading_zero = refl

no_path : read_token (with_zeros (codes "7")) ≡ None
unfolding read_token begins_with_token path_test
no_path = refl

-- a text that is read may be longer than a path, and its path may not

longest_path : read_token (codes "/7." ++ zeros ++ codes ";" ++ replicate 1023 97) ≡ Some (47 ∷ replicate 1023 97, token_of_zeros 7)
unfolding read_token begins_with_token path_test decode_pairs
longest_path = refl

path_too_long : read_token (codes "/7." ++ zeros ++ codes ";" ++ replicate 1024 97) ≡ None
unfolding read_token begins_with_token path_test
path_too_long = refl

-- what a token is made over, and the two pads of the key `k`

message : token_message (codes "/a") (record { tx = 2 ^ 32 + 2; k = 1 }) 160 ≡ codes "/a" ++ 0 ∷ codes "1-2-1" ++ 0 ∷ codes "160"
unfolding digits
message = refl

inner_pad : padded 0x36 (codes "k") ≡ 0x5d ∷ replicate 63 0x36
inner_pad = refl

outer_pad : padded 0x5c (codes "k") ≡ 0x37 ∷ replicate 63 0x5c
outer_pad = refl

-- up to when a token is good

life_of_a_minute : expiry_after 100 60 ≡ 160
life_of_a_minute = refl

life_past_the_greatest : expiry_after (2 ^ 64 - 10) 10 ≡ 2 ^ 64 - 1
life_past_the_greatest = refl

-- what the token of /a that is good up to 160 is worth

abbrev first_link : LinkNo
first_link = record { tx = 2 ^ 32 + 2; k = 1 }

same_bytes : (bs : List ℕ) → bytes_eq bs bs ≡ true
same_bytes bs = (bytes_decides bs bs).1 refl

good_at_its_expiry : (key : List ℕ) → verdict key (codes "/a") first_link 160 (token key (codes "/a") first_link 160) ≡ Good
unfolding verdict
good_at_its_expiry key = rw (same_bytes (mac key (codes "/a") first_link 160)) refl

expired_a_second_later : (key : List ℕ) → verdict key (codes "/a") first_link 161 (token key (codes "/a") first_link 160) ≡ Expired 160
unfolding verdict
expired_a_second_later key = rw (same_bytes (mac key (codes "/a") first_link 160)) refl

-- bytes that are not those of its mac make it wrong, also where it is over
wrong : (key bytes : List ℕ) → bytes_eq bytes (mac key (codes "/a") first_link 160) ≡ false → verdict key (codes "/a") first_link 161 (record { expiry = 160; mac = bytes }) ≡ Wrong
unfolding verdict
wrong key bytes other = rw other refl
