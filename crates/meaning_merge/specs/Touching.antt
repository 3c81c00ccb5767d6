-- What a merge owes to the links of base, copy, committed and merged tables.
use Rattle.std.specs.Prelude.{◌≡◌, ◌⊎◌, ℕ, Bool, false, not, List, [], ◌∷◌, filter}
use Rattle.std.specs.List.{list_any}
use Rattle.dl_base.specs.declared.value.LinkRow.{LinkRow}
use Rattle.meaning_settling.specs.Keyed.{is_at}
use Rattle.meaning_tables.specs.Links.{table_links, links, same_number}
use Rattle.meaning_tables.specs.Tables.{Rows, Tables}

abbrev pub In : LinkRow → List LinkRow → Type 0
In x [] = ⊥
In x (y ∷ ys) = (x ≡ y) ⊎ In x ys

-- a link whose number another list has
abbrev pub is_in : List LinkRow → LinkRow → Bool
is_in ls x = list_any (λ y. same_number x.link y.link) ls

-- no two links on one path
abbrev pub OnePath : List LinkRow → Type 0
OnePath [] = Unit {0}
OnePath (x ∷ xs) = ((y : LinkRow) → In y xs → is_at y.path x.path ≡ false) × OnePath xs

abbrev pub EachLink : List LinkRow → (LinkRow → Type 0) → Type 0
EachLink [] P = Unit {0}
EachLink (x ∷ xs) P = P x × EachLink xs P

-- where the links of tables that are not touched do not pass
abbrev pub Untouched : (LinkRow → Bool) → (List ℕ × Rows → Bool) → Tables → Type 0
Untouched p touched [] = Unit {0}
Untouched p touched (t ∷ ts) = (touched t ≡ false → EachLink (table_links t.1) (λ x. p x ≡ false)) × Untouched p touched ts

-- four pairs of tables, of which the touched ones are the same
pub record Touches (base copy committed merged : Tables) : Type 0 where
  pub of_base : List ℕ × Rows → Bool
  pub of_copy : List ℕ × Rows → Bool
  pub of_committed : List ℕ × Rows → Bool
  pub of_merged : List ℕ × Rows → Bool
  -- the transaction saw the committed tables that it touched, and the commit has its own
  pub before : links (filter of_base base) ≡ links (filter of_committed committed)
  pub after : links (filter of_copy copy) ≡ links (filter of_merged merged)
  -- untouched tables are on both sides, and the touched ones share no number with them
  pub given : Untouched (λ x. not (is_in (links copy) x)) of_base base × EachLink (links (filter of_base base)) (λ x. not (is_in (links copy) x) ≡ not (is_in (links (filter of_copy copy)) x))
  pub given_now : Untouched (λ x. not (is_in (links merged) x)) of_committed committed × EachLink (links (filter of_committed committed)) (λ x. not (is_in (links merged) x) ≡ not (is_in (links (filter of_merged merged)) x))
  pub taken : Untouched (λ x. not (is_in (links base) x)) of_copy copy × EachLink (links (filter of_copy copy)) (λ x. not (is_in (links base) x) ≡ not (is_in (links (filter of_base base)) x))
  pub taken_now : Untouched (λ x. not (is_in (links committed) x)) of_merged merged × EachLink (links (filter of_merged merged)) (λ x. not (is_in (links committed) x) ≡ not (is_in (links (filter of_committed committed)) x))
