-- The changes of a restore as handles of the tables that they make: dropped tables, kept ones, new ones.
use Rattle.std.specs.Prelude.{ℕ, Bool, not, if◌then◌else◌, List, ◌++◌, map, Option, Some, None}
use Rattle.std.specs.List.{filter_map}
use Rattle.db_changes.specs.Handles.{new_handle}
use Rattle.db_replay.specs.declared.changes.Change.{Change}
use Rattle.db_replay.specs.declared.changes.Change.TheVariants as handles
use Rattle.meaning_areas.specs.Same.{same_columns}
use Rattle.meaning_merge.specs.Restoring.{is_kept, new_in}
use Rattle.meaning_tables.specs.Tables.{Rows, Tables, table_of}

abbrev pub dropped_handle : List ℕ × Rows → Option Rows → Option Change
dropped_handle t later = if is_kept (Some t.1) later then None else Some (handles.Dropped t.0)

abbrev pub kept_handle : List ℕ × Rows → Option Rows → Option Change
kept_handle t None = None
kept_handle t (Some later) = if same_columns t.1 later then Some (handles.Kept t.0 later) else None

-- in the order of the changes of its record
abbrev pub restore_handles : Tables → Tables → List Change
restore_handles committed target =
    filter_map (λ t. dropped_handle t (table_of target t.0)) committed
    ++ filter_map (λ t. kept_handle t (table_of target t.0)) committed
    ++ map new_handle (new_in committed target)

-- the same by steps: the target's table of a name, where it has the columns of a committed one, and a table of the target for which none
-- is kept

abbrev pub kept_of : Rows → Option Rows → Option Rows
kept_of t None = None
kept_of t (Some later) = if same_columns t later then Some later else None

abbrev pub is_new_in : Tables → List ℕ × Rows → Bool
is_new_in committed t = not (is_kept (table_of committed t.0) (Some t.1))
