-- Texts in decimal digits: the most digits that each may have, two bounds, and the number that it is, or that it is none.
use Rattle.std.proofs.Common.{◌≡◌, ◌-◌, ◌^◌, [], ◌∷◌, map, codes, Some, None, refl}
use Rattle.dl_base.specs.Digits.{is_number, number_in}

up_to_nine : map (number_in 20 0 9) (codes "0" ∷ codes "9" ∷ codes "007" ∷ []) ≡ Some 0 ∷ Some 9 ∷ Some 7 ∷ []
unfolding number_in is_number
up_to_nine = refl

-- past the bound; signs, spaces and prefixes
none_up_to_nine : map (number_in 20 0 9) ([] ∷ codes "10" ∷ codes "+7" ∷ codes "-7" ∷ codes " 7" ∷ codes "7 " ∷ codes "0x7" ∷ []) ≡ None ∷ None ∷ None ∷ None ∷ None ∷ None ∷ None ∷ []
unfolding number_in is_number
none_up_to_nine = refl

zeros_in_front : map (number_in 3 0 9) (codes "007" ∷ codes "0007" ∷ []) ≡ Some 7 ∷ None ∷ []
unfolding number_in is_number
zeros_in_front = refl

no_digit_allowed : number_in 0 0 9 (codes "7") ≡ None
unfolding number_in is_number
no_digit_allowed = refl

from_seven : map (number_in 20 7 9) (codes "6" ∷ codes "7" ∷ []) ≡ None ∷ Some 7 ∷ []
unfolding number_in is_number
from_seven = refl

no_number_between : number_in 20 9 7 (codes "8") ≡ None
unfolding number_in is_number
no_number_between = refl

-- a letter, the bytes beside the digits, and U+0667, which is a digit of another script
no_digits : map (number_in 20 0 99) (codes "7a" ∷ codes "/" ∷ codes ":" ∷ (0xd9 ∷ 0xa7 ∷ []) ∷ []) ≡ None ∷ None ∷ None ∷ None ∷ []
unfolding number_in is_number
no_digits = refl

of_64_bits : map (number_in 20 0 (2 ^ 64 - 1)) (codes "18446744073709551615" ∷ codes "18446744073709551616" ∷ codes "99999999999999999999" ∷ codes "018446744073709551615" ∷ []) ≡ Some (2 ^ 64 - 1) ∷ None ∷ None ∷ None ∷ []
unfolding number_in is_number
of_64_bits = refl

of_64_bits_in_21_digits : number_in 21 0 (2 ^ 64 - 1) (codes "018446744073709551615") ≡ Some (2 ^ 64 - 1)
unfolding number_in is_number
of_64_bits_in_21_digits = refl
