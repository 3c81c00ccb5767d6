-- Tables with room for more, and names beside tables.
use Rattle.std.specs.Prelude.{◌≡◌, ◌==◌, ◌<◌, ◌≤◌, ◌-◌, ℕ, Bool, false, true, List, [], length, get_or, nat_lt, if◌then◌else◌}
use Rattle.std.specs.Cmp.Lexicographic.{pointwise, slice_cmp}
use Rattle.std.specs.List.{IsDistinct}
use Rattle.std.specs.Ordering.{is_lt, nat_cmp}
use Rattle.meaning_tables.specs.Tables.{Rows, Tables}

-- the tables, and for how many more there is room
pub record Roomy : Type 0 where
  pub tables : Tables
  pub spare : ℕ

-- names that differ, one for each table
pub record ArePaired (names : List (List ℕ)) (tables : List Rows) : Type 0 where
  pub each : length tables ≡ length names
  pub distinct : IsDistinct (pointwise ◌==◌) names

-- the bytes of a name are less than those of another
abbrev pub less : List ℕ → List ℕ → Bool
less name other = is_lt (slice_cmp nat_cmp name other)

-- the name at a place in the order
abbrev pub named : List (List ℕ) → List ℕ → ℕ → List ℕ
named names order i = get_or names (get_or order i 0) []

-- the places of the names, each once, so that the names rise by their bytes
pub record AreOrdered (names : List (List ℕ)) (order : List ℕ) : Type 0 where
  pub each : length order ≡ length names
  pub within : (i : ℕ) → i < length order → get_or order i 0 < length names
  pub rising : (i j : ℕ) → i < j → j < length order → less (named names order i) (named names order j) ≡ true
  pub all : (k : ℕ) → k < length names → (i : ℕ) × (i < length order) × (get_or order i 0 ≡ k)

-- the names before a place in the order are less than a name, and those from it on are not
pub record IsRank (names : List (List ℕ)) (order : List ℕ) (name : List ℕ) (rank : ℕ) : Type 0 where
  pub least : rank ≤ length order
  pub before : (i : ℕ) → i < rank → less (named names order i) name ≡ true
  pub behind : (i : ℕ) → rank ≤ i → i < length order → less (named names order i) name ≡ false

-- a place after another was taken away
abbrev pub lowered : ℕ → ℕ → ℕ
lowered place k = if nat_lt place k then k - 1 else k
