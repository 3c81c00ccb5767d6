-- The plan of a restore.
use Rattle.std.specs.Prelude.{ℕ, ◌&&◌, Bool, false, not, if◌then◌else◌, List, [], ◌∷◌, ◌++◌, filter, map, bytes_eq, is_none, Option, Some, None}
use Rattle.meaning_examples.specs.Maps as maps
use Rattle.std.specs.List.{filter_map, flat_map, list_any}
use Rattle.dl_base.specs.declared.answer.Lost.{Lost}
use Rattle.dl_base.specs.declared.column.Column.{Column}
use Rattle.dl_base.specs.declared.file.File.{File}
use Rattle.dl_base.specs.declared.value.LinkRow.{LinkRow}
use Rattle.dl_base.specs.declared.value.Value.{Value}
use Rattle.dl_base.specs.declared.value.Value.TheVariants as values
use Rattle.dl_codec.specs.declared.rows.TableChange.{TableChange}
use Rattle.dl_codec.specs.declared.rows.TableChange.TheVariants as changes
use Rattle.meaning_examples.specs.UserFiles.{Files}
use Rattle.meaning_examples.specs.Keyed.{is_at}
use Rattle.meaning_examples.specs.Settling.{Copy, Copies, link_key}
use Rattle.meaning_tables.specs.Links.{cell_links}
use Rattle.meaning_tables.specs.Tables.{Rows, Tables, table_of}
use Rattle.meaning_examples.specs.Merging.{as_version, row_changes, row_change}
use Rattle.meaning_examples.specs.Same.{same_columns}

-- a link that is taken with RECOVERY NO, and whose path has no file, is lost
abbrev pub is_lost : Files → List LinkRow → LinkRow → Bool
is_lost files taken l = list_any (λ t. is_at (link_key t.link) (link_key l.link)) taken && not l.options.recovery && is_none (maps.get files l.path)

abbrev pub loses : (LinkRow → Bool) → Column → Value → Bool
loses lost c v = list_any lost (cell_links c.kind v)

abbrev pub without_cells : (LinkRow → Bool) → List Column → List Value → List Value
without_cells lost [] vs = vs
without_cells lost (c ∷ cs) [] = []
without_cells lost (c ∷ cs) (v ∷ vs) = (if loses lost c v then values.Null else v) ∷ without_cells lost cs vs

abbrev pub without_lost : (LinkRow → Bool) → Tables → Tables
without_lost lost tables = map (λ t. (t.0, record t.1 { rows = map (λ r. (r.0, record { values = without_cells lost t.1.columns r.1.values })) t.1.rows })) tables

abbrev pub lost_of : List ℕ → ℕ → Column → LinkRow → Lost
lost_of table row c l = record { table = table; row = row; column = c.name; path = l.path }

abbrev pub lost_in : (LinkRow → Bool) → List ℕ → ℕ → List Column → List Value → List Lost
lost_in lost table row [] vs = []
lost_in lost table row (c ∷ cs) [] = []
lost_in lost table row (c ∷ cs) (v ∷ vs) = map (lost_of table row c) (filter lost (cell_links c.kind v)) ++ lost_in lost table row cs vs

-- in the order of the target's links
abbrev pub lost_cells : (LinkRow → Bool) → Tables → List Lost
lost_cells lost tables = flat_map (λ t. flat_map (λ r. lost_in lost t.0 r.0 t.1.columns r.1.values) t.1.rows) tables

abbrev pub other_bytes : Option File → Option Copy → Bool
other_bytes None c = false
other_bytes (Some f) None = false
other_bytes (Some f) (Some c) = not (bytes_eq f.bytes c.bytes)

-- the first path at which other bytes stand than those that would be put there
abbrev pub in_the_way : Files → Copies → List LinkRow → List LinkRow → Option (List ℕ)
in_the_way files copies given [] = None
in_the_way files copies given (t ∷ ts) =
    if t.options.recovery && other_bytes (maps.get files t.path) (maps.get copies (link_key t.link)) && not (list_any (λ g. g.options.recovery && is_at t.path g.path) given)
    then Some t.path else in_the_way files copies given ts

-- The target merged into the committed tables: those of the same name and columns are kept in their place, others are new.

abbrev pub is_kept : Option Rows → Option Rows → Bool
is_kept (Some a) (Some b) = same_columns a b
is_kept _ _ = false

abbrev pub kept_as : ℕ → Tables → List ℕ × Rows → Option Rows → Option (List ℕ × Rows)
kept_as c target t None = None
kept_as c target t (Some later) = if same_columns t.1 later then Some (t.0, as_version c later) else None

abbrev pub new_in : Tables → Tables → Tables
new_in committed target = filter (λ t. not (is_kept (table_of committed t.0) (Some t.1))) target

abbrev pub restored_tables : Tables → Tables → ℕ → Tables
restored_tables committed target c = filter_map (λ t. kept_as c target t (table_of target t.0)) committed ++ map (λ t. (t.0, as_version c t.1)) (new_in committed target)

abbrev pub dropped_change : List ℕ × Rows → Option Rows → Option TableChange
dropped_change t later = if is_kept (Some t.1) later then None else Some (changes.Dropped t.0)

abbrev pub kept_change : List ℕ × Rows → Option Rows → Option TableChange
kept_change t None = None
kept_change t (Some later) = if same_columns t.1 later then Some (changes.Kept t.0 later.next (row_changes t.1.rows later.rows)) else None

abbrev pub restore_changes : Tables → Tables → List TableChange
restore_changes committed target =
    filter_map (λ t. dropped_change t (table_of target t.0)) committed
    ++ filter_map (λ t. kept_change t (table_of target t.0)) committed
    ++ map (λ t. changes.New t.0 t.1.columns t.1.next (map row_change t.1.rows)) (new_in committed target)
