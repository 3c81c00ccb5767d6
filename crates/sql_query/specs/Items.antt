-- Steps of a proof, which nobody need read: `types_of`, `answer_of` and `key_found` equal what `output_columns` and `key_of` of the
-- meaning of statements (`Selecting`) say. What a query shows, of its columns or its items.
use Rattle.std.specs.Prelude.{ℕ, suc, zero, ◌+◌, ◌++◌, Bool, List, [], ◌∷◌, length, bytes_eq, Option, Some, None, Result, Ok, Err, if◌then◌else◌, slice_get, nat_lt, ℤ, pos, negsuc}
use Rattle.std.specs.List.{list_any}
use Rattle.dl_base.specs.declared.column.Column.{Column}
use Rattle.dl_base.specs.declared.sql_fault.SqlFault.{SqlFault}
use Rattle.dl_base.specs.declared.sql_fault.SqlFault.TheVariants as faults
use Rattle.dl_base.specs.declared.statement.Item.{Item}
use Rattle.dl_base.specs.declared.statement.Key.{Key}
use Rattle.dl_base.specs.declared.statement.KeyBy.{KeyBy}
use Rattle.dl_base.specs.declared.statement.KeyBy.TheVariants as keys
use Rattle.dl_base.specs.declared.value.Row.{Row}
use Rattle.dl_base.specs.declared.value.Value.{Value}
use Rattle.meaning_sql.specs.declared.Context.{Context}
use Rattle.meaning_sql.specs.declared.SqlType.{SqlType}
use Rattle.meaning_sql.specs.declared.AggregateScope.{AggregateScope}
use Rattle.meaning_sql.specs.Columns.{Columns, only_one}
use Rattle.meaning_sql.specs.Faults.{◌>>=◌, typed, try_map, option_list}
use Rattle.meaning_sql.specs.Types.{type_of, is_cell, kind_type}
use Rattle.meaning_sql.specs.Values.{meaning, cell}
use Rattle.meaning_statements.specs.Selecting.{is_ungrouped, column_names, row_of_cells, is_key}
use Rattle.sql_expr.specs.Binding.{Bound, bound_value}

abbrev pub star_type : AggregateScope → List ℕ × Column → Result SqlType SqlFault
star_type s c = typed (is_ungrouped s) (kind_type c.1.kind)

abbrev pub item_type : Columns → AggregateScope → Item → Result SqlType SqlFault
item_type columns s item = type_of columns s item.expr >>= λ t. typed (is_cell t) t

abbrev pub types_of : Columns → AggregateScope → Option (List Item) → Result (List SqlType) SqlFault
types_of columns s None = try_map (star_type s) columns
types_of columns s (Some items) = try_map (item_type columns s) items

-- the cells of a row from a place on, one a column
abbrev pub cells_from : Row → ℕ → Columns → List Value
cells_from row i [] = []
cells_from row i (c ∷ cs) = cell row i ∷ cells_from row (i + 1) cs

abbrev pub item_at : Columns → Context → List Row → Row → Item → Result Value SqlFault
item_at columns context group row item = meaning columns context group item.expr row

abbrev pub listed_row : Columns → Context → List Item → List Row → Row → Result Row SqlFault
listed_row columns context items group row = try_map (item_at columns context group row) items >>= λ cells. Ok (row_of_cells cells)

abbrev pub star_row : Columns → Row → Result Row SqlFault
star_row columns row = Ok (row_of_cells (cells_from row 0 columns))

-- the same of items whose columns have places; their aggregates are over no rows
abbrev pub bound_row : Context → List Bound → Row → Result Row SqlFault
bound_row context bound row = try_map (bound_value context row) bound >>= λ cells. Ok (row_of_cells cells)

abbrev pub answer_of : Columns → Context → Option (List Item) → List Row → Row → Result Row SqlFault
answer_of columns context None group row = Ok (row_of_cells (cells_from row 0 columns))
answer_of columns context (Some items) group row = listed_row columns context items group row

-- the places, from i on, of those that pass
abbrev pub places_of : {A : Type 0} → (A → Bool) → ℕ → List A → List ℕ
places_of test i [] = []
places_of test i (x ∷ xs) = if test x then i ∷ places_of test (i + 1) xs else places_of test (i + 1) xs

abbrev pub is_column_named : List ℕ → List ℕ × Column → Bool
is_column_named name c = bytes_eq name c.1.name

abbrev pub is_item_named : List ℕ → Item → Bool
is_item_named name item = list_any (bytes_eq name) (option_list item.alias ++ column_names item.expr)

abbrev pub place_named : Columns → Option (List Item) → List ℕ → Result ℕ SqlFault
place_named columns None name = only_one name (places_of (is_column_named name) 0 columns)
place_named columns (Some items) name = only_one name (places_of (is_item_named name) 0 items)

abbrev pub width : Columns → Option (List Item) → ℕ
width columns None = length columns
width columns (Some items) = length items

-- a place from 0 of one from 1
abbrev pub place_below : ℕ → ℤ → Result ℕ SqlFault
place_below most (pos (suc n)) = typed (nat_lt n most) n
place_below most (pos zero) = Err faults.TypeFault
place_below most (negsuc n) = Err faults.TypeFault

abbrev pub place_by : Columns → Option (List Item) → KeyBy → Result ℕ SqlFault
place_by columns items (keys.Name name) = place_named columns items name
place_by columns items (keys.Place z) = place_below (width columns items) z

abbrev pub type_if : {A : Type 0} → (A → Result SqlType SqlFault) → Option A → Result SqlType SqlFault
type_if f (Some x) = f x
type_if f None = Err faults.TypeFault

abbrev pub type_shown : Columns → Option (List Item) → AggregateScope → ℕ → Result SqlType SqlFault
type_shown columns None s i = type_if (star_type s) (slice_get columns i)
type_shown columns (Some items) s i = type_if (item_type columns s) (slice_get items i)

abbrev pub key_found : Columns → Option (List Item) → AggregateScope → Key → Result (ℕ × Bool) SqlFault
key_found columns items s k = place_by columns items k.by >>= λ i. type_shown columns items s i >>= λ t. typed (is_key t) (i, k.descending)
