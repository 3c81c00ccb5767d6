-- What a commit makes of the committed tables.
use Rattle.std.specs.Prelude.{◌≡◌, ℕ, ◌==◌, Bool, true, false, not, nat_lt, if◌then◌else◌, List, [], ◌∷◌, ◌++◌, filter, map, Option, Some, None}
use Rattle.std.specs.List.{filter_map}
use Rattle.std.specs.Option.{option_or}
use Rattle.dl_base.specs.declared.value.Row.{Row}
use Rattle.dl_codec.specs.declared.rows.RowChange.{RowChange}
use Rattle.dl_codec.specs.declared.rows.TableChange.{TableChange}
use Rattle.dl_codec.specs.declared.rows.TableChange.TheVariants as changes
use Rattle.meaning_tables.specs.Tables.{Rows, Tables, table_of, row_of}
use Rattle.meaning_areas.specs.Same.{same_rows, same_row}

-- What becomes of a table: it stays, goes, or has these rows.
pub data Fate : Type 0 where
  stays : Fate
  goes : Fate
  becomes : Rows → Fate

-- A table of the base beside the copy's of its name. A table just made has version 0, and no committed one has.
abbrev pub fate_of : Option Rows → Option Rows → Fate
fate_of None now = stays
fate_of (Some b) None = goes
fate_of (Some b) (Some t) = if t.version == 0 then goes else (if same_rows b t then stays else becomes t)

abbrev pub as_version : ℕ → Rows → Rows
as_version c t = record t { version = c }

abbrev pub by_fate : ℕ → List ℕ × Rows → Fate → Option (List ℕ × Rows)
by_fate c t stays = Some t
by_fate c t goes = None
by_fate c t (becomes later) = Some (t.0, as_version c later)

abbrev pub new_ones : ℕ → Tables → Tables
new_ones c copy = map (λ t. (t.0, as_version c t.1)) (filter (λ t. t.1.version == 0) copy)

abbrev pub merge : Tables → Tables → Tables → ℕ → Tables
merge committed base copy c = filter_map (λ t. by_fate c t (fate_of (table_of base t.0) (table_of copy t.0))) committed ++ new_ones c copy

-- Table by table: what a merge leaves under a name, from the committed table of that name, the base's and the copy's.

abbrev pub kept_at : ℕ → Option Rows → Fate → Option Rows
kept_at c None f = None
kept_at c (Some t) stays = Some t
kept_at c (Some t) goes = None
kept_at c (Some t) (becomes later) = Some (as_version c later)

abbrev pub new_at : ℕ → Option Rows → Option Rows
new_at c None = None
new_at c (Some t) = if t.version == 0 then Some (as_version c t) else None

abbrev pub merged_at : ℕ → Option Rows → Option Rows → Option Rows → Option Rows
merged_at c now base copy = option_or (kept_at c now (fate_of base copy)) (new_at c copy)

-- no name stands twice
abbrev pub AreNamed : Tables → Type 0
AreNamed [] = Unit {0}
AreNamed (t ∷ ts) = (table_of ts t.0 ≡ None) × AreNamed ts

-- The changes of a Commit record: dropped tables, kept ones that differ, new ones.

abbrev pub row_change : ℕ × Row → RowChange
row_change r = record { number = r.0; values = Some r.1.values }

abbrev pub is_changed : Option Row → ℕ × Row → Bool
is_changed None r = true
is_changed (Some was) r = not (same_row (r.0, was) r)

-- rows that differ, in order of their numbers: both lists rise
abbrev pub removed : ℕ → RowChange
removed n = record { number = n; values = None }

abbrev pub is_gone : Option Row → Bool
is_gone None = true
is_gone (Some r) = false

-- a removed row stands before the first row of a greater number
abbrev pub put_removed : ℕ → List RowChange → List RowChange
put_removed n [] = removed n ∷ []
put_removed n (c ∷ cs) = if nat_lt n c.number then removed n ∷ c ∷ cs else c ∷ put_removed n cs

abbrev pub with_removed : List (ℕ × Row) → List (ℕ × Row) → List RowChange → List RowChange
with_removed now [] made = made
with_removed now (r ∷ rs) made = with_removed now rs (if is_gone (row_of now r.0) then put_removed r.0 made else made)

abbrev pub row_changes : List (ℕ × Row) → List (ℕ × Row) → List RowChange
row_changes was now = with_removed now was (map row_change (filter (λ r. is_changed (row_of was r.0) r) now))

abbrev pub dropped_by : List ℕ × Rows → Fate → Option TableChange
dropped_by t stays = None
dropped_by t goes = Some (changes.Dropped t.0)
dropped_by t (becomes later) = None

abbrev pub kept_by : List ℕ × Rows → Fate → Option TableChange
kept_by t stays = None
kept_by t goes = None
kept_by t (becomes later) = Some (changes.Kept t.0 later.next (row_changes t.1.rows later.rows))

abbrev pub new_by : List ℕ × Rows → TableChange
new_by t = changes.New t.0 t.1.columns t.1.next (map row_change t.1.rows)

abbrev pub commit_changes : Tables → Tables → List TableChange
commit_changes base copy =
    filter_map (λ t. dropped_by t (fate_of (Some t.1) (table_of copy t.0))) base
    ++ filter_map (λ t. kept_by t (fate_of (Some t.1) (table_of copy t.0))) base
    ++ map new_by (filter (λ t. t.1.version == 0) copy)
