-- Key columns, and keys that have stood in a table with one of them.
use Rattle.std.specs.Prelude.{◌≡◌, ℕ, ℤ, ◌==◌, Bool, true, false, List, [], ◌∷◌, Option, Some, None, slice_get}
use Rattle.std.specs.Cmp.Lexicographic.{pointwise}
use Rattle.std.specs.List.{list_any}
use Rattle.std.specs.Ordering.{int_eq}
use Rattle.dl_base.specs.declared.column.Column.{Column}
use Rattle.dl_base.specs.declared.value.Value.{Value}
use Rattle.dl_base.specs.declared.value.Value.TheVariants as values
use Rattle.meaning_tables.specs.Fits.{same_key, is_key}
use Rattle.sql_keys.specs.declared.finding.KeyRows.{KeyRows}
use Rattle.sql_keys.specs.declared.finding.KeyRows.TheVariants as left

abbrev pub StoodKeys : Type 0
StoodKeys = List (List Value)

-- numbers and texts are among these where they are among the keys that have stood
abbrev pub HaveStood : List ℤ → List (List ℕ) → StoodKeys → Type 0
HaveStood numbers texts stood =
    ((z : ℤ) → list_any (int_eq z) numbers ≡ list_any (pointwise same_key (values.Int z ∷ [])) stood)
    × ((t : List ℕ) → list_any (pointwise ◌==◌ t) texts ≡ list_any (pointwise same_key (values.Text t ∷ [])) stood)

abbrev pub is_key_column : Option Column → Bool
is_key_column (Some c) = is_key c.rule
is_key_column None = false

-- whether the column at a place is a key
abbrev pub is_key_at : List Column → ℕ → Bool
is_key_at columns place = is_key_column (slice_get columns place)

-- whether one of the columns at these places is a key
abbrev pub sets_key : List Column → List ℕ → Bool
sets_key columns places = list_any (is_key_at columns) places

-- whether no row but that of a number is left over
abbrev pub is_at_most : ℕ → KeyRows → Bool
is_at_most number left.All = false
is_at_most number (left.One other) = other == number
is_at_most number left.Nothing = true
