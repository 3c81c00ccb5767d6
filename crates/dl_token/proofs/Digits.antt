-- Digits at the front of a name.
use Rattle.std.proofs.Common.{◌≡◌, ℕ, ◌+◌, ◌<◌, ◌≤◌, Bool, true, false, cond, List, [], ◌∷◌, length, take, decimal, ◌^◌, refl, arith, one-add}
use Rattle.std.specs.Char.{is_ascii_digit, digit_value}
use Rattle.std.specs.List.{prefix_len}
use Rattle.std.specs.Str.{IsUtf8}
use Rattle.std.specs.Str.Parse.{AllDigits}
use Rattle.std.proofs.lemmas.Fmt.{IsAscii-from_digits, length-decimal-le}
use Rattle.std.proofs.lemmas.Str.{IsUtf8-from_ascii}
use Rattle.std.proofs.lemmas.List.Sums.{prefix_len-le-length}
use Rattle.std.proofs.lemmas.Grind.{common_steps}

pub front_length : (xs : List ℕ) → prefix_len is_ascii_digit xs ≤ length xs
front_length xs = prefix_len-le-length is_ascii_digit xs

digit_small : (c : ℕ) → is_ascii_digit c ≡ true → digit_value c < 10
digit_small c is = grind (arith, common_steps)

pub front_digits : (xs : List ℕ) → AllDigits 10 (take (prefix_len is_ascii_digit xs) xs)
front_digits [] = tt
front_digits (x ∷ xs) =
    let P : Bool → Type 0 = λ v. is_ascii_digit x ≡ v → AllDigits 10 (take (cond v (1 + prefix_len is_ascii_digit xs) 0) (x ∷ xs)) in
    (elim (is_ascii_digit x) as P [ true ↦ λ e. rw one-add (digit_small x e, front_digits xs) | false ↦ λ e. tt ]) refl

pub digits_are_text : (ds : List ℕ) → AllDigits 10 ds → IsUtf8 ds
digits_are_text ds all = IsUtf8-from_ascii ds (IsAscii-from_digits ds all)

pub decimal_short : (n : ℕ) → n < 2 ^ 32 → length (decimal n) ≤ 10
decimal_short n small = length-decimal-le 10 n (omega arith) (omega arith) (omega arith)
