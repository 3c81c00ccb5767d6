-- Which texts are numbers in decimal digits, and which number each is.
use Rattle.std.specs.Prelude.{ℕ, Bool, ◌&&◌, nat_le, if◌then◌else◌, List, length, Option, Some, None}
use Rattle.std.specs.Char.{is_ascii_digit}
use Rattle.std.specs.List.{list_all}
use Rattle.std.specs.Str.Parse.{digits_value}

-- one decimal digit, and no more than so many; zeros may stand in front
unfoldable pub is_number : ℕ → List ℕ → Bool
is_number most_digits bytes = nat_le 1 (length bytes) && nat_le (length bytes) most_digits && list_all is_ascii_digit bytes

-- a number between two bounds, which it may be
unfoldable pub number_in : ℕ → ℕ → ℕ → List ℕ → Option ℕ
number_in most_digits least most bytes =
    if is_number most_digits bytes && nat_le least (digits_value 10 bytes) && nat_le (digits_value 10 bytes) most then Some (digits_value 10 bytes) else None
