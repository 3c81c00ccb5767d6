-- Tables at one place of two lists.
use Rattle.std.specs.Prelude.{ℕ, ◌&&◌, Bool, true, false, List, bytes_eq, Option, Some, None}
use Rattle.meaning_areas.specs.Same.{same_rows}
use Rattle.meaning_tables.specs.Tables.{Rows}

abbrev pub same_at : Option (List ℕ × Rows) → Option (List ℕ × Rows) → Bool
same_at None None = true
same_at (Some a) (Some b) = bytes_eq a.0 b.0 && same_rows a.1 b.1
same_at None (Some b) = false
same_at (Some a) None = false
