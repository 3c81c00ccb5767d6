-- What a path is.
use Rattle.std.specs.Prelude.{◌-◌, ◌==◌, ◌&&◌, ℕ, Bool, false, not, IsTrue, List, length, slice_get, Option, Some, None, nat_le}
use Rattle.std.specs.List.{list_all}
use Rattle.dl_base.specs.Limits.{most_path_bytes}

-- a byte that may stand in a path: visible ASCII
abbrev pub is_path_byte : ℕ → Bool
is_path_byte b = nat_le 33 b && nat_le b 126

abbrev pub is_slash : Option ℕ → Bool
is_slash (Some b) = b == 47
is_slash None = false

-- a path begins with a slash, does not end with one, and has visible bytes, no more than the bound
unfoldable pub path_test : List ℕ → Bool
path_test bytes = nat_le (length bytes) most_path_bytes && is_slash (slice_get bytes 0) && not (is_slash (slice_get bytes (length bytes - 1))) && list_all is_path_byte bytes

abbrev pub IsPath : List ℕ → Type 0
IsPath bytes = IsTrue (path_test bytes)
