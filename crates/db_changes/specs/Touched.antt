-- Numbers of rows by the names of tables, and tables that agree beside them; copies that statements make of committed tables.
use Rattle.std.specs.Prelude.{◌≡◌, ◌==◌, ◌&&◌, ◌||◌, ℕ, Bool, true, false, not, if◌then◌else◌, List, [], ◌∷◌, Option, Some, None, bytes_eq}
use Rattle.std.specs.Cmp.Lexicographic.{pointwise}
use Rattle.std.specs.List.{AllByRecursion, list_all, list_any}
use Rattle.std.specs.List.Sorted.{IsStrictlySortedBy}
use Rattle.std.specs.Map.{lookup}
use Rattle.std.specs.Ordering.{nat_cmp}
use Rattle.dl_base.specs.declared.value.Row.{Row}
use Rattle.meaning_tables.specs.Tables.{Rows, Tables, row_of, table_of}

-- names, each with numbers
abbrev pub Touched : Type 0
Touched = List (List ℕ × List ℕ)

-- each name's numbers rise
abbrev pub AllRise : Touched → Type 0
AllRise touched = AllByRecursion (λ e. IsStrictlySortedBy nat_cmp e.1) touched

abbrev pub listed : Option (List ℕ) → List ℕ
listed None = []
listed (Some numbers) = numbers

-- the numbers under a name
abbrev pub numbers_of : Touched → List ℕ → List ℕ
numbers_of touched name = listed (lookup (pointwise ◌==◌ name) touched)

abbrev pub among : List ℕ → ℕ → Bool
among numbers n = list_any (λ m. m == n) numbers

-- a list that has numbers more
abbrev pub AddsNumbers : List ℕ → List ℕ → List ℕ → Type 0
AddsNumbers numbers old new = (n : ℕ) → among new n ≡ (among numbers n || among old n)

-- what has numbers more under one name
abbrev pub Adds : List ℕ → List ℕ → Touched → Touched → Type 0
Adds name numbers touched more = (other : List ℕ) (n : ℕ) → among (numbers_of more other) n ≡ ((bytes_eq name other && among numbers n) || among (numbers_of touched other) n)

-- the same rows beside some numbers
abbrev pub Agree : List ℕ → List (ℕ × Row) → List (ℕ × Row) → Type 0
Agree numbers was now = (n : ℕ) → among numbers n ≡ false → row_of now n ≡ row_of was n

-- each table that a copy has kept of its base has the base's rows beside the touched ones; a table just made, of version 0, may have any
pub record Covers (touched : Touched) (base copy : Tables) : Type 0 where
  pub rows : (name : List ℕ) (b t : Rows) → table_of base name ≡ Some b → table_of copy name ≡ Some t → (t.version == 0) ≡ false → Agree (numbers_of touched name) b.rows t.rows

-- the numbers under a name where only this one has some
abbrev pub numbers_at : List ℕ → List ℕ → List ℕ → List ℕ
numbers_at name numbers other = if bytes_eq name other then numbers else []

-- What one change leaves of a copy: its tables that are not of version 0 stood there before, of such a version too, and beside some
-- numbers in the table of one name they have the same rows.
pub record Leaves (name numbers : List ℕ) (before after : Tables) : Type 0 where
  pub stood : (other : List ℕ) (t : Rows) → table_of after other ≡ Some t → (t.version == 0) ≡ false → (u : Rows) × (table_of before other ≡ Some u) × ((u.version == 0) ≡ false)
  pub rows : (other : List ℕ) (u t : Rows) → table_of before other ≡ Some u → table_of after other ≡ Some t → (t.version == 0) ≡ false → Agree (numbers_at name numbers other) u.rows t.rows

-- no table of theirs was just made: a version is the number of the commit that last changed the table, from 1
abbrev pub are_committed : Tables → Bool
are_committed tables = list_all (λ t. not (t.1.version == 0)) tables

abbrev pub AreCommitted : Tables → Type 0
AreCommitted tables = are_committed tables ≡ true

-- A copy of committed tables has some of them, in their order, each of the version that it had; behind them stand those just made.
pub data FollowsBase : Tables → Tables → Type 0 where
  adds : {copy : Tables} → list_all (λ t. t.1.version == 0) copy ≡ true → FollowsBase [] copy
  drops : {base copy : Tables} (t : List ℕ × Rows) → (t.1.version == 0) ≡ false → FollowsBase base copy → FollowsBase (t ∷ base) copy
  keeps : {base copy : Tables} (t : List ℕ × Rows) (later : Rows) → (t.1.version == 0) ≡ false → later.version ≡ t.1.version → FollowsBase base copy → FollowsBase (t ∷ base) ((t.0, later) ∷ copy)
