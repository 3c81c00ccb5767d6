-- A script that is read whole.
use Rattle.std.specs.Prelude.{◌≡◌, ℕ, ◌+◌, ◌≤◌, List, [], ◌++◌, drop, length, Option, Some}
use Rattle.dl_base.specs.Limits.{most_script_bytes}
use Rattle.dl_base.specs.Sources.{Took}

-- the bytes are all that was left, and nothing is left
pub record IsWhole (bytes : List ℕ) (old new : Option (List ℕ)) : Type 0 where
  pub all : (left : List ℕ) → old ≡ Some left → bytes ≡ left
  pub ended : (left : List ℕ) → old ≡ Some left → new ≡ Some []

-- more bytes of the script were taken, so many
pub record TookMore (n : ℕ) (script more : List ℕ) (old new : Option (List ℕ)) : Type 0 where
  pub bytes : List ℕ
  pub count : length bytes ≡ n
  pub script_is : more ≡ script ++ bytes
  pub took : Took bytes old new

-- so many bytes were taken and no more, which is one more than a script may have
pub record IsTooLong (n : ℕ) (old new : Option (List ℕ)) : Type 0 where
  pub count : n ≡ most_script_bytes + 1
  pub longer : (left : List ℕ) → old ≡ Some left → n ≤ length left
  pub took : (left : List ℕ) → old ≡ Some left → new ≡ Some (drop n left)
