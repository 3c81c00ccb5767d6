-- The numbers of the rows in which two tables differ.
use Rattle.std.specs.Prelude.{ℕ, Bool, if◌then◌else◌, List, [], ◌∷◌, filter, map}
use Rattle.dl_base.specs.declared.value.Row.{Row}
use Rattle.meaning_merge.specs.Merging.{is_changed}
use Rattle.meaning_tables.specs.Tables.{row_of}

-- the numbers of the rows that pass a test
abbrev pub numbers_if : (ℕ × Row → Bool) → List (ℕ × Row) → List ℕ
numbers_if test rows = map (λ r. r.0) (filter test rows)

abbrev pub one_if : Bool → ℕ → List ℕ
one_if is number = if is then number ∷ [] else []

-- those of the second rows that the first lack, or have otherwise
abbrev pub other_numbers : List (ℕ × Row) → List (ℕ × Row) → List ℕ
other_numbers first second = numbers_if (λ r. is_changed (row_of first r.0) r) second
