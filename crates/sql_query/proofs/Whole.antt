-- SELECT, as it is computed, is the definition's.
use Rattle.std.proofs.Common.{◌≡◌, ℕ, zero, suc, ◌+◌, ◌++◌, Bool, true, false, List, [], ◌∷◌, Result, Ok, Err, Option, Some, None, length, refl, ap, ◌∙◌, pos, negsuc}
use Rattle.std.specs.Prelude.{◌||◌, map, bytes_eq, if◌then◌else◌, slice_get, unwrap_or}
use Rattle.std.specs.Cmp.Lexicographic.{pointwise}
use Rattle.dl_base.specs.declared.answer.Limit.TheVariants as limits
use Rattle.dl_base.specs.declared.sql_fault.SqlFault.{SqlFault}
use Rattle.dl_base.specs.declared.sql_fault.SqlFault.TheVariants as faults
use Rattle.dl_base.specs.declared.statement.Item.{Item}
use Rattle.dl_base.specs.declared.statement.Key.{Key}
use Rattle.dl_base.specs.declared.statement.KeyBy.{KeyBy}
use Rattle.dl_base.specs.declared.statement.KeyBy.TheVariants as keys
use Rattle.dl_base.specs.declared.statement.Select.{Select}
use Rattle.dl_base.specs.declared.value.Row.{Row}
use Rattle.dl_base.specs.declared.value.Value.{Value}
use Rattle.meaning_sql.specs.declared.Context.{Context}
use Rattle.meaning_sql.specs.declared.SqlType.{SqlType}
use Rattle.meaning_sql.specs.declared.AggregateScope.{AggregateScope}
use Rattle.meaning_sql.specs.Columns.{Columns, only_one}
use Rattle.meaning_sql.specs.Faults.{◌>>=◌, typed, ensure, option_list, try_map}
use Rattle.meaning_sql.specs.Conditions.{condition_type}
use Rattle.meaning_statements.specs.Lists.{sorted, groups}
use Rattle.meaning_statements.specs.Selecting.{are_few, OutputColumn, star, output_columns, output_column, named_places, key_place, type_at_place, key_of, is_key, row_of_cells, units, no_row, same_value, is_grouped, scope_of, group_place, combined, is_before, select}
use Rattle.meaning_statements.specs.Sources.{Source, sources_of, columns_of}
use Rattle.meaning_tables.specs.Tables.{Tables}
use Rattle.sql_query.specs.Answering.{of_group, by_way, answers_of}
use Rattle.sql_join.specs.Grouping.{key_at}
use Rattle.sql_query.specs.Grouping.{first_row}
use Rattle.sql_query.specs.Items.{star_type, item_type, types_of, cells_from, answer_of, places_of, is_column_named, is_item_named, place_named, width, place_by, type_if, type_shown, key_found}
use Rattle.sql_query.specs.Planning.{planned, selected, chosen, answered}

bind_same : {A B : Type 0} (m : Result A SqlFault) (f g : A → Result B SqlFault) → ((x : A) → f x ≡ g x) → (m >>= f) ≡ (m >>= g)
bind_same (Err e) f g h = refl
bind_same (Ok x) f g h = h x

each_map : {A B C : Type 0} (f : B → Result C SqlFault) (g : A → B) (xs : List A) → try_map f (map g xs) ≡ try_map (λ x. f (g x)) xs
each_map f g [] = refl
each_map {A} {B} {C} f g (x ∷ xs) = ap (λ (m : Result (List C) SqlFault). f (g x) >>= λ y. m >>= λ ys. Ok (y ∷ ys)) (each_map f g xs)

each_same : {A B : Type 0} (f g : A → Result B SqlFault) → ((x : A) → f x ≡ g x) → (xs : List A) → try_map f xs ≡ try_map g xs
each_same f g h [] = refl
each_same {A} {B} f g h (x ∷ xs) = rw (h x) (ap (λ (m : Result (List B) SqlFault). g x >>= λ y. m >>= λ ys. Ok (y ∷ ys)) (each_same f g h xs))

-- The types of what is shown.

star_types : (s : AggregateScope) (i : ℕ) (columns : Columns) → try_map (λ (x : OutputColumn). x.type s) (star i columns) ≡ try_map (star_type s) columns
star_types s i [] = refl
star_types s i (c ∷ cs) = ap (λ (m : Result (List SqlType) SqlFault). star_type s c >>= λ y. m >>= λ ys. Ok (y ∷ ys)) (star_types s (i + 1) cs)

pub types-are : (columns : Columns) (context : Context) (s : AggregateScope) (items : Option (List Item)) → try_map (λ (x : OutputColumn). x.type s) (output_columns columns context items) ≡ types_of columns s items
types-are columns context s None = star_types s 0 columns
types-are columns context s (Some items) = each_map (λ (x : OutputColumn). x.type s) (output_column columns context) items

-- The places of names.

or_false : (b : Bool) → (b || false) ≡ b
or_false true = refl
or_false false = refl

star_named : (name : List ℕ) (i : ℕ) (start : ℕ) (columns : Columns) → named_places name i (star start columns) ≡ places_of (is_column_named name) i columns
star_named name i start [] = refl
star_named name i start (c ∷ cs) =
    ap (λ (b : Bool). if b then i ∷ named_places name (i + 1) (star (start + 1) cs) else named_places name (i + 1) (star (start + 1) cs)) (or_false (bytes_eq name c.1.name))
    ∙ ap (λ (ps : List ℕ). if bytes_eq name c.1.name then i ∷ ps else ps) (star_named name (i + 1) (start + 1) cs)

items_named : (columns : Columns) (context : Context) (name : List ℕ) (i : ℕ) (items : List Item) → named_places name i (map (output_column columns context) items) ≡ places_of (is_item_named name) i items
items_named columns context name i [] = refl
items_named columns context name i (x ∷ xs) = ap (λ (ps : List ℕ). if is_item_named name x then i ∷ ps else ps) (items_named columns context name (i + 1) xs)

star_length : (i : ℕ) (columns : Columns) → length (star i columns) ≡ length columns
star_length i [] = refl
star_length i (c ∷ cs) = ap suc (star_length (i + 1) cs)

map_length : {A B : Type 0} (f : A → B) (xs : List A) → length (map f xs) ≡ length xs
map_length f [] = refl
map_length f (x ∷ xs) = ap suc (map_length f xs)

width_is : (columns : Columns) (context : Context) (items : Option (List Item)) → length (output_columns columns context items) ≡ width columns items
width_is columns context None = star_length 0 columns
width_is columns context (Some items) = map_length (output_column columns context) items

named_is : (columns : Columns) (context : Context) (items : Option (List Item)) (name : List ℕ) → only_one name (named_places name 0 (output_columns columns context items)) ≡ place_named columns items name
named_is columns context None name = ap (only_one name) (star_named name 0 0 columns)
named_is columns context (Some items) name = ap (only_one name) (items_named columns context name 0 items)

place_is : (columns : Columns) (context : Context) (items : Option (List Item)) (by : KeyBy) → key_place (output_columns columns context items) by ≡ place_by columns items by
place_is columns context items (keys.Name name) = named_is columns context items name
place_is columns context items (keys.Place (pos zero)) = refl
place_is columns context items (keys.Place (pos (suc n))) = rw (width_is columns context items) refl
place_is columns context items (keys.Place (negsuc n)) = refl

star_type_at : (s : AggregateScope) (i j : ℕ) (columns : Columns) → type_at_place (slice_get (star i columns) j) s ≡ type_if (star_type s) (slice_get columns j)
star_type_at s i j [] = refl
star_type_at s i zero (c ∷ cs) = refl
star_type_at s i (suc j) (c ∷ cs) = star_type_at s (i + 1) j cs

item_type_at : (columns : Columns) (context : Context) (s : AggregateScope) (j : ℕ) (items : List Item) → type_at_place (slice_get (map (output_column columns context) items) j) s ≡ type_if (item_type columns s) (slice_get items j)
item_type_at columns context s j [] = refl
item_type_at columns context s zero (x ∷ xs) = refl
item_type_at columns context s (suc j) (x ∷ xs) = item_type_at columns context s j xs

type_is : (columns : Columns) (context : Context) (items : Option (List Item)) (s : AggregateScope) (j : ℕ) → type_at_place (slice_get (output_columns columns context items) j) s ≡ type_shown columns items s j
type_is columns context None s j = star_type_at s 0 j columns
type_is columns context (Some items) s j = item_type_at columns context s j items

pub key-is : (columns : Columns) (context : Context) (items : Option (List Item)) (s : AggregateScope) (k : Key) → key_of (output_columns columns context items) s k ≡ key_found columns items s k
key-is columns context items s k =
    ap (λ (m : Result ℕ SqlFault). m >>= λ i. type_at_place (slice_get (output_columns columns context items) i) s >>= λ t. typed (is_key t) (i, k.descending)) (place_is columns context items k.by)
    ∙ bind_same (place_by columns items k.by) (λ i. type_at_place (slice_get (output_columns columns context items) i) s >>= λ t. typed (is_key t) (i, k.descending)) (λ i. type_shown columns items s i >>= λ t. typed (is_key t) (i, k.descending))
    (λ i. ap (λ (m : Result SqlType SqlFault). m >>= λ t. typed (is_key t) (i, k.descending)) (type_is columns context items s i))

-- The answers.

abbrev answer_meant : Columns → Context → Option (List Item) → List Row → Row → Result Row SqlFault
answer_meant columns context items group row = try_map (λ (s : OutputColumn). s.at group row) (output_columns columns context items) >>= λ cells. Ok (row_of_cells cells)

star_cells : (group : List Row) (row : Row) (i : ℕ) (columns : Columns) → try_map (λ (s : OutputColumn). s.at group row) (star i columns) ≡ Ok (cells_from row i columns)
star_cells group row i [] = refl
star_cells group row i (c ∷ cs) = rw (star_cells group row (i + 1) cs) refl

answer_is : (columns : Columns) (context : Context) (items : Option (List Item)) (group : List Row) (row : Row) → answer_meant columns context items group row ≡ answer_of columns context items group row
answer_is columns context None group row = rw (star_cells group row 0 columns) refl
answer_is columns context (Some items) group row = ap (λ (m : Result (List Value) SqlFault). m >>= λ cells. Ok (row_of_cells cells)) (each_map (λ (s : OutputColumn). s.at group row) (output_column columns context) items)

module _ (f g : List Row → Row → Result Row SqlFault) (h : (group : List Row) (row : Row) → f group row ≡ g group row) where
  units_are : (grouped : Bool) (places : List ℕ) (rows : List Row) → try_map (λ (u : Row × List Row). f u.1 u.0) (units grouped places rows) ≡ by_way g grouped places rows
  units_are false places rows = each_map (λ (u : Row × List Row). f u.1 u.0) (λ (r : Row). (r, [])) rows ∙ each_same (f []) (g []) (h []) rows
  units_are true [] rows = ap (λ (m : Result Row SqlFault). m >>= λ a. Ok (a ∷ [])) (h rows (first_row rows))
  units_are true (p ∷ ps) rows =
      let found = groups (pointwise same_value) (key_at (p ∷ ps)) rows in
      each_map (λ (u : Row × List Row). f u.1 u.0) (λ (group : List Row). (unwrap_or (slice_get group 0) no_row, group)) found
      ∙ each_same (λ (group : List Row). f group (unwrap_or (slice_get group 0) no_row)) (of_group g) (λ group. h group (first_row group)) found

pub answers-are : (columns : Columns) (context : Context) (q : Select) (places : List ℕ) (rows : List Row)
    → try_map (λ (u : Row × List Row). try_map (λ (s : OutputColumn). s.at u.1 u.0) (output_columns columns context q.items) >>= λ cells. Ok (row_of_cells cells)) (units (is_grouped q) places rows) ≡ answers_of columns context q places rows
answers-are columns context q places rows = units_are (answer_meant columns context q.items) (answer_of columns context q.items) (answer_is columns context q.items) (is_grouped q) places rows

-- The whole.

abbrev pair_of : List ℕ → List (ℕ × Bool) → Result (List ℕ × List (ℕ × Bool)) SqlFault
pair_of group order_keys = Ok (group, order_keys)

module _ (m1 m2 m3 : Result (List SqlType) SqlFault) (m4 : Result (List ℕ) SqlFault) (m5 : Result (List (ℕ × Bool)) SqlFault) (few : Result Bool SqlFault) (rows : Result (List Row) SqlFault)
    (f g : List ℕ → List Row → Result (List Row) SqlFault) where
  abbrev Parts : Type 0
  Parts = (m1 >>= λ a. m2 >>= λ b. m3 >>= λ c. m4 >>= λ group. m5 >>= λ order_keys. few >>= λ d. rows >>= λ r. f group r >>= λ answers. Ok (sorted (is_before order_keys) answers))
      ≡ ((m1 >>= λ a. m2 >>= λ b. m3 >>= λ c. m4 >>= λ group. m5 >>= λ order_keys. pair_of group order_keys) >>= λ p. few >>= λ d. rows >>= λ r. g p.0 r >>= λ answers. Ok (sorted (is_before p.1) answers))

parts : (m1 m2 m3 : Result (List SqlType) SqlFault) (m4 : Result (List ℕ) SqlFault) (m5 : Result (List (ℕ × Bool)) SqlFault) (few : Result Bool SqlFault) (rows : Result (List Row) SqlFault)
    (f g : List ℕ → List Row → Result (List Row) SqlFault) → ((group : List ℕ) (r : List Row) → f group r ≡ g group r) → Parts m1 m2 m3 m4 m5 few rows f g
parts (Err e) m2 m3 m4 m5 few rows f g h = refl
parts (Ok a) (Err e) m3 m4 m5 few rows f g h = refl
parts (Ok a) (Ok b) (Err e) m4 m5 few rows f g h = refl
parts (Ok a) (Ok b) (Ok c) (Err e) m5 few rows f g h = refl
parts (Ok a) (Ok b) (Ok c) (Ok d) (Err e) few rows f g h = refl
parts (Ok a) (Ok b) (Ok c) (Ok group) (Ok k) few rows f g h =
    bind_same few (λ d. rows >>= λ r. f group r >>= λ answers. Ok (sorted (is_before k) answers)) (λ d. rows >>= λ r. g group r >>= λ answers. Ok (sorted (is_before k) answers))
    (λ d. bind_same rows (λ r. f group r >>= λ answers. Ok (sorted (is_before k) answers)) (λ r. g group r >>= λ answers. Ok (sorted (is_before k) answers))
    (λ r. ap (λ (m : Result (List Row) SqlFault). m >>= λ answers. Ok (sorted (is_before k) answers)) (h group r)))

-- from its sources on
abbrev from_sources : Select → Context → List Source → Result (List Row) SqlFault
from_sources q context sources = do
  let columns = columns_of sources
  let items = output_columns columns context q.items
  joins ← try_map (condition_type columns) q.conditions
  types ← try_map (λ s. s.type (scope_of columns q)) items
  filter ← try_map (condition_type columns) (option_list q.filter)
  group ← try_map (group_place columns) q.group
  order_keys ← try_map (key_of items (scope_of columns q)) q.order
  few ← ensure (are_few sources) (faults.Limit limits.Product)
  rows ← combined sources context (q.conditions ++ option_list q.filter)
  answers ← try_map (λ u. try_map (λ s. s.at u.1 u.0) items >>= λ cells. Ok (row_of_cells cells)) (units (is_grouped q) group rows)
  Ok (sorted (is_before order_keys) answers)

sources_same : (sources : List Source) (q : Select) (context : Context) → from_sources q context sources ≡ selected sources q context
unfolding planned chosen answered
sources_same sources q context =
    let columns = columns_of sources in
    let answered = λ (group : List ℕ) (r : List Row). try_map (λ (u : Row × List Row). try_map (λ (s : OutputColumn). s.at u.1 u.0) (output_columns (columns_of sources) context q.items) >>= λ cells. Ok (row_of_cells cells)) (units (is_grouped q) group r) in
    parts (try_map (condition_type columns) q.conditions) (try_map (λ (s : OutputColumn). s.type (scope_of columns q)) (output_columns columns context q.items)) (try_map (condition_type columns) (option_list q.filter)) (try_map (group_place columns) q.group)
    (try_map (key_of (output_columns columns context q.items) (scope_of columns q)) q.order) (ensure (are_few sources) (faults.Limit limits.Product))
    (combined sources context (q.conditions ++ option_list q.filter)) answered (answers_of columns context q) (answers-are columns context q)
    ∙ rw (types-are columns context (scope_of columns q) q.items) (rw (each_same (key_of (output_columns columns context q.items) (scope_of columns q)) (key_found columns q.items (scope_of columns q)) (key-is columns context q.items (scope_of columns q)) q.order) refl)

pub select-is : (tables : Tables) (q : Select) (context : Context) → select tables q context ≡ (sources_of tables q.from >>= λ sources. selected sources q context)
unfolding select
select-is tables q context = bind_same (sources_of tables q.from) (from_sources q context) (λ sources. selected sources q context) (λ sources. sources_same sources q context)
