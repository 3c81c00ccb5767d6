-- A restore of three tables: one is kept, and a cell of it is lost; one was made with other columns since; one is of no target.
use Rattle.std.proofs.Common.{◌≡◌, ℕ, ◌==◌, Bool, false, List, [], ◌∷◌, pos, Some, None, refl}
use Rattle.db_replay.specs.Changes.{all_at_version, applied}
use Rattle.db_replay.specs.declared.changes.Change.TheVariants as handles
use Rattle.dl_base.specs.declared.column.Column.{Column}
use Rattle.dl_base.specs.declared.column.ColumnRule.TheVariants as rules
use Rattle.dl_base.specs.declared.column.Kind.TheVariants as kinds
use Rattle.dl_base.specs.declared.column.OnUnlink.TheVariants as unlinks
use Rattle.dl_base.specs.declared.column.Options.{Options}
use Rattle.dl_base.specs.declared.column.ReadBy.TheVariants as reads
use Rattle.dl_base.specs.declared.column.WriteBy.TheVariants as writes
use Rattle.dl_base.specs.declared.value.LinkRow.{LinkRow}
use Rattle.dl_base.specs.declared.value.Row.{Row}
use Rattle.dl_base.specs.declared.value.Value.{Value}
use Rattle.dl_base.specs.declared.value.Value.TheVariants as values
use Rattle.dl_codec.specs.declared.rows.TableChange.TheVariants as changes
use Rattle.meaning_merge.specs.Restoring.{lost_cells, restore_changes, restored_tables, without_lost}
use Rattle.meaning_tables.specs.Links.{gives, takes}
use Rattle.meaning_tables.specs.Tables.{Rows, Tables}
use Rattle.bk_restore.specs.Differing.{other_numbers}
use Rattle.bk_restore.specs.Handles.{restore_handles}

abbrev m : List ℕ
m = 109 ∷ []

abbrev n : List ℕ
n = 110 ∷ []

abbrev o : List ℕ
o = 111 ∷ []

abbrev path : ℕ → List ℕ
path letter = 47 ∷ letter ∷ []

abbrev blocked : Options
blocked = record { read = reads.Fs; write = writes.Blocked; recovery = false; unlink = unlinks.Restore }

abbrev number : Column
number = record { name = 105 ∷ []; kind = kinds.Int; rule = rules.Key }

abbrev linked : Column
linked = record { name = 102 ∷ []; kind = kinds.Linked blocked; rule = rules.Plain }

-- the link of a count in transaction 5
abbrev link : ℕ → ℕ → Value
link letter k = values.Link (record { location = 104 ∷ []; path = path letter; comment = []; link = Some (record { tx = 5; k = k }) })

abbrev row : ℕ → Value → ℕ × Row
row i v = (i, record { values = values.Int (pos i) ∷ v ∷ [] })

abbrev table : ℕ → List Column → ℕ → List (ℕ × Row) → Rows
table v columns next rows = record { version = v; columns = columns; next = next; rows = rows }

abbrev target : Tables
target = (m, table 1 (number ∷ linked ∷ []) 3 (row 1 (link 97 1) ∷ row 2 (link 98 2) ∷ [])) ∷ (o, table 1 (number ∷ []) 1 []) ∷ []

-- since then row 1 went and a third one came
abbrev committed : Tables
committed = (m, table 3 (number ∷ linked ∷ []) 4 (row 2 (link 98 2) ∷ row 3 values.Null ∷ [])) ∷ (n, table 2 (number ∷ []) 1 []) ∷ (o, table 4 (linked ∷ []) 1 []) ∷ []

-- the first link has no file
abbrev lost : LinkRow → Bool
lost l = l.link.k == 1

abbrev later : Tables
later = (m, table 1 (number ∷ linked ∷ []) 3 (row 1 values.Null ∷ row 2 (link 98 2) ∷ [])) ∷ (o, table 1 (number ∷ []) 1 []) ∷ []

the_later : without_lost lost target ≡ later
the_later = refl

the_lost : lost_cells lost target ≡ record { table = m; row = 1; column = 102 ∷ []; path = path 97 } ∷ []
the_lost = refl

-- rows 1 and 3 differ
forth : other_numbers (row 2 (link 98 2) ∷ row 3 values.Null ∷ []) (row 1 values.Null ∷ row 2 (link 98 2) ∷ []) ≡ 1 ∷ []
forth = refl

back : other_numbers (row 1 values.Null ∷ row 2 (link 98 2) ∷ []) (row 2 (link 98 2) ∷ row 3 values.Null ∷ []) ≡ 3 ∷ []
back = refl

the_changes : restore_changes committed later
    ≡ changes.Dropped n ∷ changes.Dropped o
    ∷ changes.Kept m 3 (record { number = 1; values = Some (values.Int (pos 1) ∷ values.Null ∷ []) } ∷ record { number = 3; values = None } ∷ [])
    ∷ changes.New o (number ∷ []) 1 [] ∷ []
the_changes = refl

the_handles : restore_handles committed later
    ≡ handles.Dropped n ∷ handles.Dropped o
    ∷ handles.Kept m (table 1 (number ∷ linked ∷ []) 3 (row 1 values.Null ∷ row 2 (link 98 2) ∷ []))
    ∷ handles.New o (table 1 (number ∷ []) 1 []) ∷ []
the_handles = refl

-- THE RESTORED TABLES, as commit 5

abbrev restored : Tables
restored = (m, table 5 (number ∷ linked ∷ []) 3 (row 1 values.Null ∷ row 2 (link 98 2) ∷ [])) ∷ (o, table 5 (number ∷ []) 1 []) ∷ []

the_restored : restored_tables committed later 5 ≡ restored
the_restored = refl

the_applied : applied committed (all_at_version 5 (restore_handles committed later)) ≡ restored
the_applied = refl

-- what is lost is not taken
the_taken : takes committed target ≡ record { link = record { tx = 5; k = 1 }; path = path 97; options = blocked } ∷ []
the_taken = refl

none_taken : takes committed restored ≡ []
none_taken = refl

none_given : gives committed restored ≡ []
none_given = refl
