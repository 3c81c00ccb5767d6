-- The rows of a table with links that others lack.
use Rattle.std.specs.Prelude.{◌≡◌, ℕ, true, false, List, [], Option, Some, None}
use Rattle.std.specs.List.{list_any}
use Rattle.std.specs.List.Sorted.{IsStrictlySortedBy}
use Rattle.std.specs.Ordering.{nat_cmp}
use Rattle.dl_base.specs.declared.column.Column.{Column}
use Rattle.dl_base.specs.declared.value.LinkNo.{LinkNo}
use Rattle.dl_base.specs.declared.value.LinkRow.{LinkRow}
use Rattle.dl_base.specs.declared.value.Row.{Row}
use Rattle.dl_pages.specs.Entries.{entry_order}
use Rattle.dl_pages.specs.Orders.{link_order}
use Rattle.dl_pages.specs.Sets.{has}
use Rattle.meaning_tables.specs.Links.{lacking, row_links, same_number}
use Rattle.meaning_tables.specs.Tables.{Rows, row_of}

-- the links of a row that others lack
abbrev pub row_lacking : List LinkRow → List Column → Option Row → List LinkRow
row_lacking others columns None = []
row_lacking others columns (Some row) = lacking (row_links columns row.values) others

-- those of the row of a number
abbrev pub lacking_at : List LinkRow → Rows → ℕ → List LinkRow
lacking_at others t number = row_lacking others t.columns (row_of t.rows number)

-- numbers in order, each once, among them each one that an index has under a link that others lack
pub record CoversLacking (others : List LinkRow) (index : List (LinkNo × ℕ)) (numbers : List ℕ) : Type 0 where
  pub sorted : IsStrictlySortedBy nat_cmp numbers
  pub each : (k : LinkNo) (n : ℕ) → has (entry_order link_order) index (k, n) ≡ true → list_any (λ y. same_number k y.link) others ≡ false → has nat_cmp numbers n ≡ true
