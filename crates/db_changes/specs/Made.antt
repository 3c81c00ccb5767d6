-- What the commit of a transaction makes of the committed tables: its record, and the same as handles; and what rows give without a scan.
use Rattle.std.specs.Prelude.{◌≡◌, ◌≤◌, ◌+◌, ◌*◌, ◌/◌, ◌∷◌, [], ℕ, Bool, List, Option, Some, None, if◌then◌else◌}
use Rattle.std.specs.List.{flat_map}
use Rattle.dl_base.specs.Limits.{most_tables}
use Rattle.dl_base.specs.declared.value.Row.{Row}
use Rattle.dl_codec.specs.Layout.{whole}
use Rattle.dl_codec.specs.Rows.{rows_record}
use Rattle.dl_codec.specs.declared.rows.RowChange.{RowChange}
use Rattle.dl_codec.specs.declared.rows.RowsRecord.{RowsRecord}
use Rattle.dl_codec.specs.declared.rows.RowsRecord.TheVariants as records
use Rattle.dl_codec.specs.declared.rows.TableChange.{TableChange}
use Rattle.meaning_areas.specs.Same.{same_row}
use Rattle.meaning_merge.specs.Merging.{removed, row_change}
use Rattle.meaning_tables.specs.Tables.{row_of}
use Rattle.db_changes.specs.Handles.{NewLast}
use Rattle.db_replay.specs.Applying.{new_in}
use Rattle.db_replay.specs.declared.changes.Change.{Change}

-- Of a commit: its transaction, whether that has a branch, the changes of its record, handles of the tables that they make, and how many
-- commits' room it takes.
pub record Making : Type 0 where
  pub tx : ℕ
  pub branch : Bool
  pub changes : List TableChange
  pub handles : List Change
  pub rooms : ℕ

-- how many commits' room is enough for one that makes these tables: the room of a commit is for at most 256 new ones
abbrev pub rooms_for : List Change → ℕ
rooms_for handles = 1 + new_in handles / most_tables

-- its record, as the commit of a number
abbrev pub record_of : Making → ℕ → RowsRecord
record_of m number = records.Commit m.tx number m.branch m.changes

-- what is kept of it: the bytes of its record as commit 0, and the handles
pub record IsMade (m : Making) (bytes : List ℕ) : Type 0 where
  pub body : bytes ≡ rows_record.spelling (record_of m 0)
  pub fits : rows_record.fits (record_of m 0)
  -- there is room for its new tables where there is room for so many commits, and they stand behind the other changes
  pub few : new_in m.handles ≤ m.rooms * most_tables
  pub some : 1 ≤ m.rooms
  pub order : NewLast m.handles

-- the changes of the commit that bytes are
abbrev pub changes_of : Option RowsRecord → List TableChange
changes_of None = []
changes_of (Some (records.Opening number)) = []
changes_of (Some (records.Commit tx number branch changes)) = changes
changes_of (Some (records.Ended tx)) = []

abbrev pub changes_in : List ℕ → List TableChange
changes_in bytes = changes_of (whole rows_record bytes)

-- the change of the row of a number, if there is one
abbrev pub change_at : Option Row → Option Row → ℕ → List RowChange
change_at None None n = []
change_at None (Some r) n = row_change (n, r) ∷ []
change_at (Some w) None n = removed n ∷ []
change_at (Some w) (Some r) n = if same_row (n, w) (n, r) then [] else row_change (n, r) ∷ []

-- the changes of the rows of some numbers
abbrev pub changes_at : List (ℕ × Row) → List (ℕ × Row) → List ℕ → List RowChange
changes_at was now numbers = flat_map (λ n. change_at (row_of was n) (row_of now n) n) numbers
