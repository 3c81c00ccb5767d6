-- What a copy makes of its base, as handles: dropped tables, kept ones that differ, new ones.
use Rattle.std.specs.Prelude.{◌==◌, ◌++◌, ℕ, if◌then◌else◌, Bool, true, false, IsTrue, List, [], ◌∷◌, Option, Some, None, filter, map}
use Rattle.std.specs.List.{filter_map, list_all}
use Rattle.db_replay.specs.declared.changes.Change.{Change}
use Rattle.db_replay.specs.declared.changes.Change.TheVariants as changes
use Rattle.meaning_areas.specs.Same.{same_rows}
use Rattle.meaning_merge.specs.Merging.{Fate, becomes, fate_of, goes, stays}
use Rattle.meaning_tables.specs.Tables.{Rows, Tables, table_of}

abbrev pub dropped_handle : List ℕ × Rows → Fate → Option Change
dropped_handle t stays = None
dropped_handle t goes = Some (changes.Dropped t.0)
dropped_handle t (becomes later) = None

abbrev pub kept_handle : List ℕ × Rows → Fate → Option Change
kept_handle t stays = None
kept_handle t goes = None
kept_handle t (becomes later) = Some (changes.Kept t.0 later)

abbrev pub new_handle : List ℕ × Rows → Change
new_handle t = changes.New t.0 t.1

-- what becomes of a table of the base
abbrev pub fate_in : Tables → List ℕ × Rows → Fate
fate_in copy t = fate_of (Some t.1) (table_of copy t.0)

-- the same by steps: the copy's table of a name, where it has that of the base; and what becomes of a table that both have
abbrev pub kept_in : Option Rows → Option Rows
kept_in None = None
kept_in (Some t) = if t.version == 0 then None else Some t

abbrev pub fate_between : Rows → Rows → Fate
fate_between b t = if same_rows b t then stays else becomes t

-- in the order of the changes of a record
abbrev pub handles : Tables → Tables → List Change
handles base copy =
    filter_map (λ t. dropped_handle t (fate_in copy t)) base
    ++ filter_map (λ t. kept_handle t (fate_in copy t)) base
    ++ map new_handle (filter (λ t. t.1.version == 0) copy)

-- handles that make a table
abbrev pub makes : Change → Bool
makes (changes.Dropped name) = false
makes (changes.Kept name t) = false
makes (changes.New name t) = true

-- they stand behind all others
abbrev pub new_last : List Change → Bool
new_last [] = true
new_last (c ∷ cs) = if makes c then list_all makes cs else new_last cs

abbrev pub NewLast : List Change → Type 0
NewLast cs = IsTrue (new_last cs)
