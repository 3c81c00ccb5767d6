-- A row of a given number among the others.
use Rattle.std.specs.Prelude.{◌==◌, ℕ, List, [], ◌∷◌, nat_lt, if◌then◌else◌}
use Rattle.dl_base.specs.declared.value.Row.{Row}

-- rows with one of a number: in the place of that of the number, or before the first of a greater one
abbrev pub with_placed : List (ℕ × Row) → ℕ → Row → List (ℕ × Row)
with_placed [] number row = (number, row) ∷ []
with_placed (r ∷ rs) number row =
    if number == r.0 then (number, row) ∷ rs
    else (if nat_lt number r.0 then (number, row) ∷ r ∷ rs else r ∷ with_placed rs number row)
