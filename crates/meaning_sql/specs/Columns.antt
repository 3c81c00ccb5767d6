-- Which column a reference means.
use Rattle.std.specs.Prelude.{ℕ, ◌+◌, ◌&&◌, Bool, true, List, [], ◌∷◌, bytes_eq, Option, Some, None, Result, Ok, Err, if◌then◌else◌, slice_get}
use Rattle.dl_base.specs.declared.sql_fault.SqlFault.{SqlFault}
use Rattle.dl_base.specs.declared.sql_fault.SqlFault.TheVariants as faults
use Rattle.dl_base.specs.declared.column.Column.{Column}
use Rattle.dl_base.specs.declared.column.Kind.{Kind}
use Rattle.dl_base.specs.declared.column.Kind.TheVariants as kinds
use Rattle.dl_base.specs.declared.column.Options.{Options}
use Rattle.dl_base.specs.declared.statement.Ref.{Ref}

-- the table or alias that a column is of, and the column
abbrev pub Columns : Type 0
Columns = List (List ℕ × Column)

abbrev pub is_of_source : Option (List ℕ) → List ℕ → Bool
is_of_source None source = true
is_of_source (Some name) source = bytes_eq name source

abbrev pub is_meant : Ref → List ℕ × Column → Bool
is_meant r c = is_of_source r.table c.0 && bytes_eq r.column c.1.name

-- the places of the columns that a reference may mean, the first column being at i
abbrev pub places_meant : Ref → ℕ → Columns → List ℕ
places_meant r i [] = []
places_meant r i (c ∷ cs) = if is_meant r c then i ∷ places_meant r (i + 1) cs else places_meant r (i + 1) cs

abbrev pub only_one : List ℕ → List ℕ → Result ℕ SqlFault
only_one name [] = Err (faults.NoColumn name)
only_one name (i ∷ []) = Ok i
only_one name (i ∷ j ∷ is) = Err (faults.Ambiguous name)

-- the place from 0 of the one column that a reference means
unfoldable pub place_of : Columns → Ref → Result ℕ SqlFault
place_of columns r = only_one r.column (places_meant r 0 columns)

abbrev pub kind_of : Option (List ℕ × Column) → Kind
kind_of (Some c) = c.1.kind
kind_of None = kinds.Int

-- the kind of the column at a place
abbrev pub kind_at : Columns → ℕ → Kind
kind_at columns i = kind_of (slice_get columns i)

-- the options of a column under link control
abbrev pub options_of : Kind → Option Options
options_of (kinds.Linked o) = Some o
options_of kinds.Int = None
options_of (kinds.Text n) = None
options_of kinds.Free = None

-- those of the column at a place, if a reference has one
unfoldable pub options_at : Columns → Result ℕ SqlFault → Option Options
options_at columns (Ok i) = options_of (kind_at columns i)
options_at columns (Err e) = None
