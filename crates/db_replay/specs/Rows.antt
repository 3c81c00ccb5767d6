-- The numbers of changed rows.
use Rattle.std.specs.Prelude.{ℕ, ◌+◌, ◌||◌, Bool, Option, Some, None, is_none, nat_lt}
use Rattle.dl_codec.specs.declared.rows.RowChange.{RowChange}

-- a change puts no row, or one of a number below the next one
abbrev pub is_below : ℕ → RowChange → Bool
is_below next c = is_none c.values || nat_lt c.number next

-- the least number that may stand behind another
abbrev pub least_after : Option ℕ → ℕ
least_after None = 0
least_after (Some number) = number + 1
