-- Transactions that have nothing in common, and one that was settled in part.
use Rattle.std.specs.Prelude.{◌≡◌, ◌⊎◌, ℕ, Bool, true, false, if◌then◌else◌, List, Some, is_some}
use Rattle.std.specs.FinMap as maps
use Rattle.std.specs.List.{list_any}
use Rattle.dl_base.specs.declared.value.LinkRow.{LinkRow}
use Rattle.meaning_settling.specs.Keyed.{is_at}
use Rattle.meaning_settling.specs.Settling.{Moved, Kept, numbered, file_after, first_copy, copy_after, held_after, paths_of, keys_of, copies_after}

abbrev pub has_path : Moved → List ℕ → Bool
has_path m path = list_any (is_at path) (paths_of m)

abbrev pub has_key : Moved → List ℕ → Bool
has_key m key = list_any (is_at key) (keys_of m)

-- no path of both
abbrev pub ShareNoPath : Moved → Moved → Type 0
ShareNoPath a b = (p : List ℕ) → (has_path a p ≡ false) ⊎ (has_path b p ≡ false)

-- no path and no link number of both
pub record Apart (a b : Moved) : Type 0 where
  pub paths : ShareNoPath a b
  pub keys : (n : List ℕ) → (has_key a n ≡ false) ⊎ (has_key b n ≡ false)

-- each link with RECOVERY YES that is given has a copy, or a file of which one can be made
abbrev pub IsReady : Moved → Kept → Type 0
IsReady m k = (n : List ℕ) (g : LinkRow) → numbered m.gives n ≡ Some g → g.options.recovery ≡ true → is_some (first_copy (maps.get k.copies n) (maps.get k.files g.path)) ≡ true

-- of settling this one, some copies, perhaps the files, perhaps the links are done; files only once all copies are
pub record IsPart (copies : List ℕ → Bool) (files held : Bool) (m : Moved) (k later : Kept) : Type 0 where
  pub at_copies : (n : List ℕ) → maps.get later.copies n ≡ (if copies n then copy_after m k.files n (maps.get k.copies n) else maps.get k.copies n)
  pub at_files : (p : List ℕ) → maps.get later.files p ≡ (if files then file_after m (copies_after m k) p (maps.get k.files p) else maps.get k.files p)
  pub at_held : (n : List ℕ) → maps.get later.held n ≡ (if held then held_after m n (maps.get k.held n) else maps.get k.held n)
  pub order : files ≡ true → (n : List ℕ) → copies n ≡ true
