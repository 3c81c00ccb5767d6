-- What the records of the area Rows stand for: the commits, one after another.
use Rattle.std.specs.Prelude.{◌≡◌, ℕ, ◌+◌, ◌/◌, ◌^◌, ◌==◌, ◌&&◌, Bool, true, false, not, nat_lt, nat_le, if◌then◌else◌, List, [], ◌∷◌, ◌++◌, length, map, pos, Option, Some, None, is_none, Result, Ok, Err}
use Rattle.std.specs.List.{list_all}
use Rattle.std.specs.Option.{option_and_then}
use Rattle.dl_base.specs.Limits.{most_columns}
use Rattle.dl_base.specs.declared.column.Column.{Column}
use Rattle.dl_base.specs.declared.column.ColumnRule.{ColumnRule}
use Rattle.dl_base.specs.declared.column.ColumnRule.TheVariants as rules
use Rattle.dl_base.specs.declared.column.Kind.{Kind}
use Rattle.dl_base.specs.declared.column.Kind.TheVariants as kinds
use Rattle.dl_base.specs.declared.sql_fault.SqlFault.{SqlFault}
use Rattle.dl_base.specs.declared.statement.ColumnDef.{ColumnDef}
use Rattle.dl_base.specs.declared.statement.Integrity.TheVariants as integrity
use Rattle.dl_base.specs.declared.statement.KindDef.{KindDef}
use Rattle.dl_base.specs.declared.statement.KindDef.TheVariants as defs
use Rattle.dl_base.specs.declared.value.LinkRow.{LinkRow}
use Rattle.dl_base.specs.declared.value.Row.{Row}
use Rattle.dl_base.specs.declared.value.Value.{Value}
use Rattle.dl_codec.specs.declared.rows.RowChange.{RowChange}
use Rattle.dl_codec.specs.declared.rows.RowsRecord.{RowsRecord}
use Rattle.dl_codec.specs.declared.rows.RowsRecord.TheVariants as records
use Rattle.dl_codec.specs.declared.rows.TableChange.{TableChange}
use Rattle.dl_codec.specs.declared.rows.TableChange.TheVariants as changes
use Rattle.meaning_statements.specs.Creating.{columns_made}
use Rattle.meaning_tables.specs.Fits.{fits}
use Rattle.meaning_tables.specs.Links.{gives, takes}
use Rattle.meaning_tables.specs.Tables.{Rows, Tables, table_of, with_table, without_row, without_table}

-- A commit: its transaction, whether that has a branch, the links that it took away and added, and the tables after it.
pub record Commit : Type 0 where
  pub tx : ℕ
  pub branch : Bool
  pub gives : List LinkRow
  pub takes : List LinkRow
  pub tables : Tables

pub record Commits : Type 0 where
  pub opening : ℕ
  pub commits : List Commit
  pub ended : List ℕ

abbrev pub no_commits : Commits
no_commits = record { opening = 0; commits = []; ended = [] }

-- the tables after the last of some commits; there are none after commit 0
abbrev pub tables_after : Tables → List Commit → Tables
tables_after tables [] = tables
tables_after tables (c ∷ cs) = tables_after c.tables cs

-- the commit of a transaction
abbrev pub commit_of : ℕ → List Commit → Option Commit
commit_of tx [] = None
commit_of tx (c ∷ cs) = if c.tx == tx then Some c else commit_of tx cs

abbrev pub has_number : ℕ → List ℕ → Bool
has_number x [] = false
has_number x (y ∷ ys) = if y == x then true else has_number x ys

-- changes of rows

abbrev pub put_row : List (ℕ × Row) → ℕ → Row → List (ℕ × Row)
put_row [] n row = (n, row) ∷ []
put_row (r ∷ rs) n row = if n == r.0 then (n, row) ∷ rs else (if nat_lt n r.0 then (n, row) ∷ r ∷ rs else r ∷ put_row rs n row)

abbrev pub by_values : List (ℕ × Row) → ℕ → Option (List Value) → List (ℕ × Row)
by_values rows n None = without_row rows n
by_values rows n (Some vs) = put_row rows n (record { values = vs })

abbrev pub with_row_changes : List (ℕ × Row) → List RowChange → List (ℕ × Row)
with_row_changes rows [] = rows
with_row_changes rows (c ∷ cs) = with_row_changes (by_values rows c.number c.values) cs

-- numbers rise from one on
abbrev pub rising : ℕ → List ℕ → Bool
rising least [] = true
rising least (n ∷ ns) = nat_le least n && rising (n + 1) ns

-- a table's rows after changes, if the numbers of these rise, and all row numbers are below the next one
abbrev pub changed_rows : Rows → List RowChange → Option Rows
changed_rows t made =
    let rows = with_row_changes t.rows made in
    if rising 0 (map (λ c. c.number) made) && list_all (λ r. nat_lt r.0 t.next) rows then Some (record t { rows = rows }) else None

-- whether CREATE TABLE could have made columns

abbrev pub defined_kind : Kind → KindDef
defined_kind kinds.Int = defs.Integer
defined_kind (kinds.Text most) = defs.Varchar (pos most)
defined_kind kinds.Free = defs.Free
defined_kind (kinds.Linked o) = defs.Chosen integrity.All o.read o.write o.recovery o.unlink

abbrev pub not_nulls : ColumnRule → ℕ
not_nulls rules.Plain = 0
not_nulls rules.NotNull = 1
not_nulls rules.Key = 0

abbrev pub keys : ColumnRule → ℕ
keys rules.Plain = 0
keys rules.NotNull = 0
keys rules.Key = 1

abbrev pub definition_of : Column → ColumnDef
definition_of c = record { name = c.name; kind = defined_kind c.kind; not_null = not_nulls c.rule; key = keys c.rule }

abbrev pub is_made : Result (List Column) SqlFault → Bool
is_made (Ok cs) = true
is_made (Err fault) = false

abbrev pub columns_stand : List Column → Bool
columns_stand cs = nat_le (length cs) most_columns && is_made (columns_made [] false (map definition_of cs))

-- changes of tables

abbrev pub kept_table : ℕ → ℕ → List RowChange → Option Rows → Option Rows
kept_table version next made None = None
kept_table version next made (Some t) = changed_rows (record { version = version; columns = t.columns; next = next; rows = t.rows }) made

abbrev pub new_table : ℕ → List Column → ℕ → List RowChange → Option Rows → Option Rows
new_table version columns next made (Some t) = None
new_table version columns next made None = if columns_stand columns then changed_rows (record { version = version; columns = columns; next = next; rows = [] }) made else None

abbrev pub put_table : Tables → List ℕ → Option Rows → Option Tables
put_table tables name None = None
put_table tables name (Some t) = Some (with_table tables name t)

abbrev pub add_table : Tables → List ℕ → Option Rows → Option Tables
add_table tables name None = None
add_table tables name (Some t) = Some (tables ++ (name, t) ∷ [])

abbrev pub drop_table : Tables → List ℕ → Option Rows → Option Tables
drop_table tables name None = None
drop_table tables name (Some t) = Some (without_table tables name)

-- a change of one table, which gets the version
abbrev pub with_table_change : ℕ → Tables → TableChange → Option Tables
with_table_change version tables (changes.Dropped name) = drop_table tables name (table_of tables name)
with_table_change version tables (changes.New name columns next made) = add_table tables name (new_table version columns next made (table_of tables name))
with_table_change version tables (changes.Kept name next made) = put_table tables name (kept_table version next made (table_of tables name))

abbrev pub with_table_changes : ℕ → Tables → List TableChange → Option Tables
with_table_changes version tables [] = Some tables
with_table_changes version tables (c ∷ cs) = option_and_then (λ later. with_table_changes version later cs) (with_table_change version tables c)

-- the commits after one more, which leads to these tables
abbrev pub commit_to : List Commit → ℕ → Bool → Tables → Commit
commit_to commits tx branch tables = record {
  tx = tx;
  branch = branch;
  gives = gives (tables_after [] commits) tables;
  takes = takes (tables_after [] commits) tables;
  tables = tables;
}

-- each commit has the links that it took away and added; all that are made so have
abbrev pub HaveMoved : Tables → List Commit → Type 0
HaveMoved before [] = Unit {0}
HaveMoved before (c ∷ cs) = (c.gives ≡ gives before c.tables) × (c.takes ≡ takes before c.tables) × HaveMoved c.tables cs

abbrev pub with_commit : Commits → Commit → Commits
with_commit r c = record { opening = r.opening; commits = r.commits ++ c ∷ []; ended = r.ended }

abbrev pub fitting : Commits → ℕ → Bool → Option Tables → Option Commits
fitting r tx branch None = None
fitting r tx branch (Some tables) = if fits tables then Some (with_commit r (commit_to r.commits tx branch tables)) else None

abbrev pub commits_on : Commits → ℕ → ℕ → Bool → List TableChange → Option Commits
commits_on r tx number branch made =
    if (number == length r.commits + 1) && is_none (commit_of tx r.commits) && (tx / 2 ^ 32 == r.opening)
    then fitting r tx branch (with_table_changes number (tables_after [] r.commits) made) else None

abbrev pub with_ended : Commits → ℕ → Commits
with_ended r tx = record { opening = r.opening; commits = r.commits; ended = r.ended ++ tx ∷ [] }

abbrev pub ends_on : Commits → ℕ → Option Commit → Option Commits
ends_on r tx None = None
ends_on r tx (Some c) = if c.branch && not (has_number tx r.ended) then Some (with_ended r tx) else None

abbrev pub opens_on : Commits → ℕ → Option Commits
opens_on r number = if number == r.opening + 1 then Some (record { opening = number; commits = r.commits; ended = r.ended }) else None

-- one more record; none where the fold refuses it
abbrev pub rows_step : Commits → RowsRecord → Option Commits
rows_step r (records.Opening number) = opens_on r number
rows_step r (records.Commit tx number branch made) = commits_on r tx number branch made
rows_step r (records.Ended tx) = ends_on r tx (commit_of tx r.commits)
