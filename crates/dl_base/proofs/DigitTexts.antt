-- Decimal digits.
use Rattle.std.proofs.Common.{◌≡◌, ℕ, ◌<◌, ◌&&◌, nat_le, true, length, List, [], ◌∷◌, arith}
use Rattle.std.specs.Char.{is_ascii_digit, digit_value}
use Rattle.std.specs.List.{list_all}
use Rattle.std.specs.Str.{IsUtf8}
use Rattle.std.specs.Str.Parse.{AllDigits}
use Rattle.std.proofs.lemmas.Bool.{and_parts}
use Rattle.std.proofs.lemmas.Fmt.{IsAscii-from_digits}
use Rattle.std.proofs.lemmas.Grind.{common_steps}
use Rattle.std.proofs.lemmas.Str.{IsUtf8-from_ascii}
use Rattle.dl_base.specs.Digits.{is_number}

digit_small : (c : ℕ) → is_ascii_digit c ≡ true → digit_value c < 10
digit_small c is = grind (arith, common_steps)

all_digits : (xs : List ℕ) → list_all is_ascii_digit xs ≡ true → AllDigits 10 xs
all_digits [] all = tt
all_digits (x ∷ xs) all = let both = and_parts (is_ascii_digit x) (list_all is_ascii_digit xs) all in (digit_small x both.0, all_digits xs both.1)

pub number_digits : (most_digits : ℕ) (bytes : List ℕ) → is_number most_digits bytes ≡ true → AllDigits 10 bytes
unfolding is_number
number_digits most_digits bytes is =
    let both = and_parts (nat_le 1 (length bytes) && nat_le (length bytes) most_digits) (list_all is_ascii_digit bytes) is in
    all_digits bytes both.1

pub digits_are_text : (ds : List ℕ) → AllDigits 10 ds → IsUtf8 ds
digits_are_text ds all = IsUtf8-from_ascii ds (IsAscii-from_digits ds all)
