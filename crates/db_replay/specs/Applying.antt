-- Changes that can be done where no two tables may have one name, and how many tables they make.
use Rattle.std.specs.Prelude.{ℕ, ◌+◌, ◌&&◌, Bool, true, IsTrue, List, [], ◌∷◌, is_none}
use Rattle.db_replay.specs.Changes.{apply}
use Rattle.db_replay.specs.declared.changes.Change.{Change}
use Rattle.db_replay.specs.declared.changes.Change.TheVariants as handles
use Rattle.meaning_tables.specs.Tables.{Tables, table_of}

-- a new table has a name that no table has
abbrev pub is_new : Tables → Change → Bool
is_new tables (handles.Dropped name) = true
is_new tables (handles.Kept name t) = true
is_new tables (handles.New name t) = is_none (table_of tables name)

-- when its turn comes
abbrev pub are_new : Tables → List Change → Bool
are_new tables [] = true
are_new tables (c ∷ cs) = is_new tables c && are_new (apply tables c) cs

abbrev pub AreNew : Tables → List Change → Type 0
AreNew tables cs = IsTrue (are_new tables cs)

-- how many tables a change makes
abbrev pub new_by : Change → ℕ
new_by (handles.Dropped name) = 0
new_by (handles.Kept name t) = 0
new_by (handles.New name t) = 1

abbrev pub new_in : List Change → ℕ
new_in [] = 0
new_in (c ∷ cs) = new_by c + new_in cs
