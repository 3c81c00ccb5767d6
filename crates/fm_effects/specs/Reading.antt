-- What a Finish reads.
use Rattle.std.specs.Prelude.{◌≡◌, ℕ, Bool, true, false, List}
use Rattle.std.specs.FinMap as maps
use Rattle.dl_base.specs.declared.file.FileChange.{FileChange}
use Rattle.dl_base.specs.declared.file.FileChange.TheVariants as changes
use Rattle.meaning_settling.specs.Apart.{has_key, has_path}
use Rattle.meaning_settling.specs.Settling.{Kept, Moved}

-- a change that takes no room for another file
abbrev pub is_no_put : FileChange → Bool
is_no_put (changes.Removed path) = true
is_no_put (changes.Put row) = false
is_no_put (changes.Kept path owner before) = true

-- the same files at a transaction's paths, and the same copies at its link numbers
pub record AgreeAt (m : Moved) (k l : Kept) : Type 0 where
  pub files : (p : List ℕ) → has_path m p ≡ true → maps.get k.files p ≡ maps.get l.files p
  pub copies : (n : List ℕ) → has_key m n ≡ true → maps.get k.copies n ≡ maps.get l.copies n
