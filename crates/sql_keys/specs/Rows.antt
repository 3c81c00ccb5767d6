-- The rows of the tests.
use Rattle.std.specs.Prelude.{ℕ, pos, List, [], ◌∷◌}
use Rattle.dl_base.specs.declared.value.Row.{Row}
use Rattle.dl_base.specs.declared.value.Value.TheVariants as values

-- the keys 2 and 5
abbrev pub two_rows : List (ℕ × Row)
two_rows = (1, record { values = values.Int (pos 2) ∷ [] }) ∷ (2, record { values = values.Int (pos 5) ∷ [] }) ∷ []
