-- The one key column of a table.
use Rattle.std.specs.Prelude.{◌≡◌, ℕ, suc, List, [], ◌∷◌, Option, Some, None, if◌then◌else◌, slice_get}
use Rattle.std.specs.List.{list_any}
use Rattle.std.specs.Option.{option_map}
use Rattle.dl_base.specs.declared.column.Column.{Column}
use Rattle.dl_base.specs.declared.value.Value.{Value}
use Rattle.meaning_sql.specs.Faults.{option_list}
use Rattle.meaning_tables.specs.Fits.{key_of, is_key}

-- the place from 0 of the key column, where there is one alone
abbrev pub only_key : List Column → Option ℕ
only_key [] = None
only_key (c ∷ cs) = if is_key c.rule then (if list_any (λ k. is_key k.rule) cs then None else Some 0) else option_map suc (only_key cs)

-- the key is the value at a place
abbrev pub IsKeyAt : List Column → ℕ → Type 0
IsKeyAt columns place = (vs : List Value) → key_of columns vs ≡ option_list (slice_get vs place)
