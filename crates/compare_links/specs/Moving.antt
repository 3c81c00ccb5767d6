-- What a commit changes: the paths that are linked, and the links that are known by their numbers.
use Rattle.std.specs.Prelude.{◌≡◌, ℕ, ◌/◌, ◌^◌, ◌≤◌, ◌&&◌, ◌||◌, Bool, true, false, not, List, [], ◌∷◌, Option, Some, None}
use Rattle.std.specs.FinMap as maps
use Rattle.std.specs.List.{list_all}
use Rattle.db_changes.specs.Touched.{Touched, among, numbers_of}
use Rattle.dl_base.specs.declared.column.Column.{Column}
use Rattle.dl_base.specs.declared.column.Kind.{Kind}
use Rattle.dl_base.specs.declared.column.Kind.TheVariants as kinds
use Rattle.dl_base.specs.declared.value.LinkRow.{LinkRow}
use Rattle.dl_base.specs.declared.value.Row.{Row}
use Rattle.fm_branch.specs.Table.{Table}
use Rattle.meaning_areas.specs.Branches.{given_on}
use Rattle.meaning_areas.specs.Commits.{Commit, Commits, has_number}
use Rattle.meaning_areas.specs.Stands.{AreDrawn, IsBranch}
use Rattle.meaning_merge.specs.Touching.{In}
use Rattle.meaning_settling.specs.Keyed.{is_at}
use Rattle.meaning_settling.specs.Settling.{link_key}
use Rattle.meaning_tables.specs.Links.{links, row_links}
use Rattle.meaning_tables.specs.Tables.{Rows, Tables, row_of, table_of}
use Rattle.compare_every.specs.Every.{agrees}
use Rattle.compare_links.specs.Fitting.{IsDoneAt}

-- columns that have no links
abbrev pub is_unlinked : Kind → Bool
is_unlinked kinds.Int = true
is_unlinked (kinds.Text most) = true
is_unlinked kinds.Free = true
is_unlinked (kinds.Linked options) = false

abbrev pub are_unlinked : List Column → Bool
are_unlinked columns = list_all (λ c. is_unlinked c.kind) columns

-- LINKS, of which some are known by their numbers

abbrev pub agrees_in : (List ℕ → Option LinkRow) → LinkRow → Bool
agrees_in rows l = agrees (rows (link_key l.link)) l

abbrev pub all_agree : (List ℕ → Option LinkRow) → List LinkRow → Bool
all_agree rows ls = list_all (agrees_in rows) ls

-- each link of tables is known
abbrev pub AreKnown : (List ℕ → Option LinkRow) → Tables → Type 0
AreKnown rows tables = (l : LinkRow) → In l (links tables) → rows (link_key l.link) ≡ Some l

-- the links of a row, if there is one, agree
abbrev pub row_agrees : (List ℕ → Option LinkRow) → List Column → Option Row → Bool
row_agrees rows columns None = true
row_agrees rows columns (Some row) = all_agree rows (row_links columns row.values)

-- those of the row of a number
abbrev pub agrees_at : (List ℕ → Option LinkRow) → Rows → ℕ → Bool
agrees_at rows t number = row_agrees rows t.columns (row_of t.rows number)

-- each row of a table agrees, beside those of some numbers
abbrev pub AgreesBeside : (List ℕ → Option LinkRow) → List ℕ → Rows → Type 0
AgreesBeside rows numbers t = (n : ℕ) → among numbers n ≡ false → agrees_at rows t n ≡ true

-- so does each beside the touched ones, where there was a table of this name with these columns
abbrev pub StaysKnown : (List ℕ → Option LinkRow) → Touched → Tables → List ℕ → Rows → Type 0
StaysKnown rows touched before name t = (was : Rows) → table_of before name ≡ Some was → was.columns ≡ t.columns → AgreesBeside rows (numbers_of touched name) t

-- PATHS, without those of some links, with one more, and with those of some links

abbrev pub without_paths : List LinkRow → (List ℕ → Bool) → List ℕ → Bool
without_paths ls paths q = paths q && not (given_on ls q)

abbrev pub with_path : List ℕ → (List ℕ → Bool) → List ℕ → Bool
with_path p paths q = is_at q p || paths q

abbrev pub with_paths : List LinkRow → (List ℕ → Bool) → List ℕ → Bool
with_paths ls paths q = given_on ls q || paths q

-- the path of each link is free when its turn comes
abbrev pub are_free : (List ℕ → Bool) → List LinkRow → Bool
are_free paths [] = true
are_free paths (l ∷ ls) = not (paths l.path) && are_free (with_path l.path paths) ls

-- WHAT IS ASKED OF A COMMIT, where these paths are linked before it, and these links are known
pub record StepFits (rows : Commits) (table : Table) (paths : List ℕ → Bool) (known : List ℕ → Option LinkRow) (c : Commit) : Type 0 where
  pub branch : IsBranch c.branch c.gives c.takes (maps.get table c.tx)
  pub ended : IsDoneAt (has_number c.tx rows.ended) (maps.get table c.tx)
  pub number : c.tx / 2 ^ 32 ≤ rows.opening
  pub drawn : AreDrawn rows.opening c.takes
  pub agree : all_agree known (links c.tables) ≡ true
  pub free : are_free (without_paths c.gives paths) c.takes ≡ true
