-- Tables after changes that have handles of the tables behind them.
use Rattle.std.specs.Prelude.{ℕ, List, [], ◌∷◌, ◌++◌, map}
use Rattle.db_replay.specs.declared.changes.Change.{Change}
use Rattle.db_replay.specs.declared.changes.Change.TheVariants as handles
use Rattle.meaning_tables.specs.Tables.{Tables, with_table, without_table}

abbrev pub apply : Tables → Change → Tables
apply tables (handles.Dropped name) = without_table tables name
apply tables (handles.Kept name t) = with_table tables name t
apply tables (handles.New name t) = tables ++ (name, t) ∷ []

-- one after another
abbrev pub applied : Tables → List Change → Tables
applied tables [] = tables
applied tables (c ∷ cs) = applied (apply tables c) cs

-- the same changes, whose tables get a version
abbrev pub at_version : ℕ → Change → Change
at_version version (handles.Dropped name) = handles.Dropped name
at_version version (handles.Kept name t) = handles.Kept name (record t { version = version })
at_version version (handles.New name t) = handles.New name (record t { version = version })

abbrev pub all_at_version : ℕ → List Change → List Change
all_at_version version cs = map (at_version version) cs
