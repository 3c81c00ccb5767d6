-- Rows that stay from one list of tables to another, beside touched ones.
use Rattle.std.specs.Prelude.{◌≡◌, ◌==◌, ◌&&◌, ℕ, Bool, true, false, not, List, Some}
use Rattle.db_changes.specs.Touched.{Agree, Touched, numbers_of}
use Rattle.dl_base.specs.declared.column.Kind.{Kind}
use Rattle.dl_base.specs.declared.column.Kind.TheVariants as kinds
use Rattle.meaning_areas.specs.Same.{same_columns}
use Rattle.meaning_tables.specs.Tables.{Rows, Tables, table_of}

-- two tables of which neither was just made, and which have the same columns
abbrev pub is_kept : Rows → Rows → Bool
is_kept t u = not (t.version == 0) && not (u.version == 0) && same_columns t u

-- a table has the rows of the others' table of its name, beside the touched ones, where neither was just made
abbrev pub StaysIn : Touched → List ℕ → Rows → Tables → Type 0
StaysIn touched name t others = (u : Rows) → table_of others name ≡ Some u → (t.version == 0) ≡ false → (u.version == 0) ≡ false → Agree (numbers_of touched name) t.rows u.rows

-- the same of each table
pub record Stay (touched : Touched) (tables others : Tables) : Type 0 where
  pub rows : (name : List ℕ) (t : Rows) → table_of tables name ≡ Some t → StaysIn touched name t others

-- under link control
abbrev pub is_linked : Kind → Bool
is_linked (kinds.Linked options) = true
is_linked kinds.Int = false
is_linked (kinds.Text length) = false
is_linked kinds.Free = false
