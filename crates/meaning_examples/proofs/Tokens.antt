-- HMACs, tokens and what they are worth, texts with a token, and the numbers of links as texts.
use Rattle.std.proofs.Common.{◌≡◌, ◌+◌, ◌-◌, ◌^◌, ℕ, true, false, List, [], ◌∷◌, ◌++◌, map, take, replicate, codes, Some, None, refl}
use Rattle.std.specs.Fmt.{digits}
use Rattle.hex.specs.Hex.{encode_lower, encode_with, decode_pairs}
use Rattle.sha2.specs.Sha256.{sha256, hash_after, compress, rounds, schedule, first_words, digest_bytes}
use Rattle.dl_base.specs.Path.{path_test}
use Rattle.dl_base.specs.declared.file.Token.{Token}
use Rattle.dl_base.specs.declared.value.LinkNo.{LinkNo}
use Rattle.dl_token.specs.Hmac.{hmac}
use Rattle.dl_token.specs.Links.{transaction_text, link_text}
use Rattle.dl_token.specs.Tokens.{begins_with_token, expiry_after, has_token_form, mac, read_token, token, verdict, with_token}
use Rattle.dl_token.specs.declared.verdict.Verdict.{Verdict}
use Rattle.dl_token.specs.declared.verdict.Verdict.TheVariants.{Good, Wrong, Expired}

-- ---- RFC 4231, the cases whose key has at most 64 bytes; of the fifth it gives the first 16 bytes

-- the bytes 1 to 25
abbrev counted_from_1 : List ℕ
counted_from_1 = 1 ∷ 2 ∷ 3 ∷ 4 ∷ 5 ∷ 6 ∷ 7 ∷ 8 ∷ 9 ∷ 10 ∷ 11 ∷ 12 ∷ 13 ∷ 14 ∷ 15 ∷ 16 ∷ 17 ∷ 18 ∷ 19 ∷ 20 ∷ 21 ∷ 22 ∷ 23 ∷ 24 ∷ 25 ∷ []

case_1 : encode_lower (hmac (replicate 20 0x0b) (codes "Hi There")) ≡ codes "b0344c61d8db38535ca8afceaf0bf12b881dc200c9833da726e9376c2e32cff7"
unfolding hmac sha256 hash_after compress rounds schedule first_words digest_bytes encode_with
case_1 = refl

case_2 : encode_lower (hmac (codes "Jefe") (codes "what do ya want for nothing?")) ≡ codes "5bdcc146bf60754e6a042426089575c75a003f089d2739839dec58b964ec3843"
unfolding hmac sha256 hash_after compress rounds schedule first_words digest_bytes encode_with
case_2 = refl

case_3 : encode_lower (hmac (replicate 20 0xaa) (replicate 50 0xdd)) ≡ codes "773ea91e36800e46854db8ebd09181a72959098b3ef8c122d9635514ced565fe"
unfolding hmac sha256 hash_after compress rounds schedule first_words digest_bytes encode_with
case_3 = refl

case_4 : encode_lower (hmac counted_from_1 (replicate 50 0xcd)) ≡ codes "82558a389a443c0ea4cc819899f2083a85f0faa3e578f8077a2e3ff46729665b"
unfolding hmac sha256 hash_after compress rounds schedule first_words digest_bytes encode_with
case_4 = refl

case_5 : encode_lower (take 16 (hmac (replicate 20 0x0c) (codes "Test With Truncation"))) ≡ codes "a3b6167473100ee06e0c796c2955552b"
unfolding hmac sha256 hash_after compress rounds schedule first_words digest_bytes encode_with
case_5 = refl

-- ---- tokens under the key of the bytes 0 to 31

abbrev key : List ℕ
key = 0 ∷ counted_from_1 ++ 26 ∷ 27 ∷ 28 ∷ 29 ∷ 30 ∷ 31 ∷ []

abbrev link : ℕ → LinkNo
link k = record { tx = 2 ^ 32 + 2; k = k }

abbrev greatest : LinkNo
greatest = record { tx = 2 ^ 64 - 1; k = 2 ^ 32 - 1 }

-- the HMACs of the messages `/a`, 0, `1-2-1`, 0, `160`, and `/a`, 0, the greatest numbers
first_token : encode_lower (mac key (codes "/a") (link 1) 160) ≡ codes "81f3f5efc19adcc31f3c9562c0a9c432"
unfolding mac hmac sha256 hash_after compress rounds schedule first_words digest_bytes digits encode_with
first_token = refl

greatest_token : encode_lower (mac key (codes "/a") greatest (2 ^ 64 - 1)) ≡ codes "c64f7cadf1c2bfeabad89cd9ffac4173"
unfolding mac hmac sha256 hash_after compress rounds schedule first_words digest_bytes digits encode_with
greatest_token = refl

-- ---- what the token of `/a` that is good up to 160 is worth at a path, for a link, under a key of one byte 32 times, at a moment

abbrev worth : List ℕ → ℕ → ℕ → ℕ → Verdict
worth path k byte moment = verdict (replicate 32 byte) path (link k) moment (token (replicate 32 7) (codes "/a") (link 1) 160)

at_moments : map (worth (codes "/a") 1 7) (0 ∷ 160 ∷ 161 ∷ []) ≡ Good ∷ Good ∷ Expired 160 ∷ []
unfolding verdict mac hmac sha256 hash_after compress rounds schedule first_words digest_bytes digits
at_moments = refl

-- another link, another path, another key
of_another : worth (codes "/a") 2 7 0 ∷ worth (codes "/b") 1 7 0 ∷ worth (codes "/a") 1 8 0 ∷ [] ≡ Wrong ∷ Wrong ∷ Wrong ∷ []
unfolding verdict mac hmac sha256 hash_after compress rounds schedule first_words digest_bytes digits
of_another = refl

-- the token of another expiry
prolonged : verdict key (codes "/a") (link 1) 0 (record { expiry = 161; mac = mac key (codes "/a") (link 1) 160 }) ≡ Wrong
unfolding verdict mac hmac sha256 hash_after compress rounds schedule first_words digest_bytes digits
prolonged = refl

life_of_a_minute : expiry_after 100 60 ≡ 160
life_of_a_minute = refl

past_the_greatest_moment : expiry_after (2 ^ 64 - 1) 1 ≡ 2 ^ 64 - 1
past_the_greatest_moment = refl

-- ---- texts with a token

abbrev sixteen : List ℕ
sixteen = 0 ∷ 0x11 ∷ 0x22 ∷ 0x33 ∷ 0x44 ∷ 0x55 ∷ 0x66 ∷ 0x77 ∷ 0x88 ∷ 0x99 ∷ 0xaa ∷ 0xbb ∷ 0xcc ∷ 0xdd ∷ 0xee ∷ 0xff ∷ []

abbrev with : List ℕ → ℕ → List ℕ
with text expiry = with_token text (record { expiry = expiry; mac = sixteen })

before_the_last_name : with (codes "/a") 160 ∷ with (codes "/x/a.b") 0 ∷ with (codes "http://fs1/x/a") (2 ^ 64 - 1) ∷ with (codes "a") 7 ∷ []
    ≡ codes "/160.00112233445566778899aabbccddeeff;a"
    ∷ codes "/x/0.00112233445566778899aabbccddeeff;a.b"
    ∷ codes "http://fs1/x/18446744073709551615.00112233445566778899aabbccddeeff;a"
    ∷ codes "7.00112233445566778899aabbccddeeff;a"
    ∷ []
unfolding with_token digits encode_with
before_the_last_name = refl

of_the_form : map has_token_form (
    codes "/x/7.00000000000000000000000000000000;a.b"
    ∷ codes "7.0123456789abcdef0123456789abcdef;a"
    ∷ codes "/0.00000000000000000000000000000000;a"
    ∷ codes "/18446744073709551615.00000000000000000000000000000000;a"
    ∷ []
    ) ≡ replicate 4 true
unfolding begins_with_token
of_the_form = refl

-- a moment past 64 bits, zeros in front, none, nothing behind the semicolon, a digit less and one more, a capital, a folder, no token
not_of_the_form : map has_token_form (
    codes "/18446744073709551616.00000000000000000000000000000000;a"
    ∷ codes "/x/07.00000000000000000000000000000000;a"
    ∷ codes "/x/00.00000000000000000000000000000000;a"
    ∷ codes "/x/.00000000000000000000000000000000;a"
    ∷ codes "/x/7.00000000000000000000000000000000;"
    ∷ codes "/x/7.0000000000000000000000000000000;a"
    ∷ codes "/x/7.000000000000000000000000000000000;a"
    ∷ codes "/x/7.0000000000000000000000000000000A;a"
    ∷ codes "/7.00000000000000000000000000000000;a/b"
    ∷ codes "/x/a;b"
    ∷ []
    ∷ []
    ) ≡ replicate 11 false
unfolding begins_with_token
not_of_the_form = refl

abbrev zeros : ℕ → Token
zeros expiry = record { expiry = expiry; mac = replicate 16 0 }

read : read_token (codes "/x/7.00000000000000000000000000000000;a.b") ≡ Some (codes "/x/a.b", zeros 7)
unfolding read_token begins_with_token path_test decode_pairs
read = refl

-- without a token, or without a path
not_read : map read_token (
    codes "/x/a;b"
    ∷ codes "/x/07.00000000000000000000000000000000;a"
    ∷ codes "x/7.00000000000000000000000000000000;a"
    ∷ codes "/x/7.00000000000000000000000000000000;a b"
    ∷ codes "/x/7.00000000000000000000000000000000;a/"
    ∷ codes "/x/a"
    ∷ []
    ) ≡ replicate 6 None
unfolding read_token begins_with_token path_test decode_pairs
not_read = refl

longest_path : read_token (codes "/7.00000000000000000000000000000000;" ++ replicate 1023 97) ≡ Some (47 ∷ replicate 1023 97, zeros 7)
unfolding read_token begins_with_token path_test decode_pairs
longest_path = refl

path_too_long : read_token (codes "/7.00000000000000000000000000000000;" ++ replicate 1024 97) ≡ None
unfolding read_token begins_with_token path_test
path_too_long = refl

-- ---- numbers as texts

links : link_text (link 1) ∷ link_text greatest ∷ [] ≡ codes "1-2-1" ∷ codes "4294967295-4294967295-4294967295" ∷ []
unfolding digits
links = refl

transactions : map transaction_text ((2 ^ 32 + 2) ∷ 7 ∷ []) ≡ codes "1-2" ∷ codes "0-7" ∷ []
unfolding digits
transactions = refl
