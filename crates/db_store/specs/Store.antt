-- What contracts see of the commits that are open on a bench.
use Rattle.std.specs.Prelude.{◌≡◌, ℕ, ◌+◌, ◌*◌, ◌^◌, List, [], length, Some, None, Result, Ok, Err}
use Rattle.dl_base.specs.declared.area.Area.TheVariants as areas
use Rattle.dl_codec.specs.Rows.{rows_record}
use Rattle.dl_codec.specs.declared.rows.RowsRecord.TheVariants as records
use Rattle.dl_areas.specs.Lists.{Write, write_of}
use Rattle.dl_journal.specs.Extent.{Extent}
use Rattle.dl_journal.specs.Records.{records as bodies_in}
use Rattle.meaning_areas.specs.Areas.{rows_of}
use Rattle.meaning_areas.specs.Commits.{Commits, commit_to, rows_step, tables_after, with_commit, with_ended}
use Rattle.meaning_areas.specs.Full.{opening_full}
use Rattle.meaning_tables.specs.Tables.{Tables}
use Rattle.db_changes.specs.Made.{Making, record_of}
use Rattle.db_replay.specs.Changes.{all_at_version, applied}

-- The commits, how many transaction numbers of the opening are drawn, for how many more commits there is room, how many bytes their
-- area has up to behind the closing gate, and how many it may have.
pub record Database : Type 0 where
  pub rows : Commits
  pub drawn : ℕ
  pub spare : ℕ
  pub length : ℕ
  pub limit : ℕ

-- the journal of the area Rows
abbrev pub extent : Database → Extent
extent d = record { area = areas.Rows; length = d.length; limit = d.limit }

-- what a list's bodies stand for; where it is none, the place of the first record that is none
abbrev pub by_bodies : Result (List (List ℕ)) ℕ → Result Commits ℕ
by_bodies (Ok bodies) = rows_of bodies
by_bodies (Err place) = Err place

-- what the bytes of the area stand for, or the place of the first record that is none or that the fold refuses
abbrev pub rows_in : List ℕ → Result Commits ℕ
rows_in told = by_bodies (bodies_in told)

-- the record of the next opening, and what is full where it has no number
abbrev pub opening_write : Commits → Write
opening_write r = write_of areas.Rows (rows_record.spelling (records.Opening (r.opening + 1))) (opening_full (r.opening + 1))

-- the commits once more, in the next opening
abbrev pub reopened : Database → ℕ → Database
reopened d length = record {
  rows = record { opening = d.rows.opening + 1; commits = d.rows.commits; ended = d.rows.ended };
  drawn = 0;
  spare = d.spare;
  length = length;
  limit = d.limit;
}

-- the next number that is drawn
abbrev pub drawn_next : Database → ℕ
drawn_next d = d.rows.opening * 2 ^ 32 + d.drawn + 1

-- the tables after the next commit: the committed ones with its handles put in
abbrev pub applied_with : Commits → Making → Tables
applied_with r m = applied (tables_after [] r.commits) (all_at_version (length r.commits + 1) m.handles)

-- the commits with that one
abbrev pub committed_with : Commits → Making → Commits
committed_with r m = with_commit r (commit_to r.commits m.tx m.branch (applied_with r m))

-- the fold takes its record, which leads there
abbrev pub IsTaken : Commits → Making → Type 0
IsTaken r m = rows_step r (record_of m (length r.commits + 1)) ≡ Some (committed_with r m)

-- its record
abbrev pub commit_write : Commits → Making → Write
commit_write r m = write_of areas.Rows (rows_record.spelling (record_of m (length r.commits + 1))) None

-- the fold takes the end of a transaction's branch: its commit has one, which has not ended
abbrev pub CanEnd : Commits → ℕ → Type 0
CanEnd r tx = rows_step r (records.Ended tx) ≡ Some (with_ended r tx)

-- the record of that
abbrev pub ended_write : ℕ → Write
ended_write tx = write_of areas.Rows (rows_record.spelling (records.Ended tx)) None
