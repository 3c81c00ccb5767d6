-- What an index has of rows: each mark of a row, with the number of the row.
use Rattle.std.specs.Prelude.{◌≡◌, ◌==◌, ◌&&◌, ◌||◌, ◌++◌, ◌∷◌, [], ℕ, Bool, false, cond, not, List, Option, Some, None}
use Rattle.std.specs.List.{list_any}
use Rattle.std.specs.List.Sorted.{IsStrictlySortedBy}
use Rattle.std.specs.Option.{option_to_list}
use Rattle.std.specs.Ordering.{is_eq}
use Rattle.std.specs.declared.cmp.Ordering.{Ordering}
use Rattle.dl_base.specs.declared.column.Column.{Column}
use Rattle.dl_base.specs.declared.column.Kind.{Kind}
use Rattle.dl_base.specs.declared.column.Kind.TheVariants as kinds
use Rattle.dl_base.specs.declared.value.LinkNo.{LinkNo}
use Rattle.dl_base.specs.declared.value.Row.{Row}
use Rattle.dl_base.specs.declared.value.Value.{Value}
use Rattle.dl_base.specs.declared.value.Value.TheVariants as values
use Rattle.dl_pages.specs.Entries.{entry_order}
use Rattle.dl_pages.specs.Orders.{link_order}
use Rattle.dl_pages.specs.Sets.{has}
use Rattle.meaning_tables.specs.Tables.{Rise, row_of}
use Rattle.sql_table.specs.KeySeen.{Key}
use Rattle.sql_table.specs.Keys.{key_order, key_marks}

-- whether one of these marks is this one
abbrev pub among : {K : Type 0} → (K → K → Ordering) → K → List K → Bool
among order k marks = list_any (λ m. is_eq (order k m)) marks

abbrev pub marked : {K : Type 0} → (K → K → Ordering) → K → (Row → List K) → Option Row → Bool
marked order k marks None = false
marked order k marks (Some row) = among order k (marks row)

-- an index, in order, has each mark of each row, and no more
pub record IsIndex {K : Type 0} (order : K → K → Ordering) (marks : Row → List K) (rows : List (ℕ × Row)) (index : List (K × ℕ)) : Type 0 where
  pub sorted : IsStrictlySortedBy (entry_order order) index
  pub each : (k : K) (n : ℕ) → has (entry_order order) index (k, n) ≡ marked order k marks (row_of rows n)

-- an index with these marks more under a number
pub record WithMarks {K : Type 0} (order : K → K → Ordering) (marks : List K) (number : ℕ) (old new : List (K × ℕ)) : Type 0 where
  pub sorted : IsStrictlySortedBy (entry_order order) new
  pub each : (k : K) (n : ℕ) → has (entry_order order) new (k, n) ≡ (((number == n) && among order k marks) || has (entry_order order) old (k, n))

-- an index without these marks under a number
pub record WithoutMarks {K : Type 0} (order : K → K → Ordering) (marks : List K) (number : ℕ) (old new : List (K × ℕ)) : Type 0 where
  pub sorted : IsStrictlySortedBy (entry_order order) new
  pub each : (k : K) (n : ℕ) → has (entry_order order) new (k, n) ≡ (not ((number == n) && among order k marks) && has (entry_order order) old (k, n))

-- an index with other marks under a number, where it has these old ones there
pub record OtherMarks {K : Type 0} (order : K → K → Ordering) (old marks : List K) (number : ℕ) (index new : List (K × ℕ)) : Type 0 where
  pub sorted : IsStrictlySortedBy (entry_order order) new
  pub each : (k : K) (n : ℕ) → (number ≡ n → has (entry_order order) index (k, n) ≡ among order k old) → has (entry_order order) new (k, n) ≡ cond (number == n) (among order k marks) (has (entry_order order) index (k, n))

-- the link numbers of a row
abbrev pub cell_marks : Kind → Value → List LinkNo
cell_marks (kinds.Linked options) (values.Link d) = option_to_list d.link
cell_marks kind value = []

abbrev pub row_marks : List Column → List Value → List LinkNo
row_marks [] vs = []
row_marks (c ∷ cs) [] = []
row_marks (c ∷ cs) (v ∷ vs) = cell_marks c.kind v ++ row_marks cs vs

abbrev pub link_marks : List Column → Row → List LinkNo
link_marks columns row = row_marks columns row.values

-- what a table keeps of its rows
pub record IsKept (columns : List Column) (next : ℕ) (rows : List (ℕ × Row)) (index : List (LinkNo × ℕ)) (keyed : List (Key × ℕ)) : Type 0 where
  pub rise : Rise 0 next rows
  pub links : IsIndex link_order (link_marks columns) rows index
  pub keys : IsIndex key_order (key_marks columns) rows keyed
