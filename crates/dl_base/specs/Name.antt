-- What a name is.
use Rattle.std.specs.Prelude.{◌==◌, ◌&&◌, ◌||◌, ℕ, Bool, false, IsTrue, List, length, slice_get, Option, Some, None, nat_le}
use Rattle.std.specs.List.{list_all}
use Rattle.dl_base.specs.Limits.{most_name_bytes}
use Rattle.std.specs.Char.{is_ascii_alphabetic, is_ascii_digit}

-- a byte that may stand in a name: a letter, a digit or an underscore
abbrev pub is_name_byte : ℕ → Bool
is_name_byte b = is_ascii_alphabetic b || is_ascii_digit b || b == 95

abbrev pub is_letter : Option ℕ → Bool
is_letter (Some b) = is_ascii_alphabetic b
is_letter None = false

-- a name begins with a letter, and has letters, digits and underscores, no more than the bound
unfoldable pub name_test : List ℕ → Bool
name_test bytes = nat_le (length bytes) most_name_bytes && is_letter (slice_get bytes 0) && list_all is_name_byte bytes

abbrev pub IsName : List ℕ → Type 0
IsName bytes = IsTrue (name_test bytes)
