-- The core of the machine's state: what lists can know of it. Of a transaction there is only what it gives and takes.
use Rattle.std.specs.Prelude.{ℕ, ◌==◌, ◌&&◌, Bool, true, false, if◌then◌else◌, List, [], Option, Some, None}
use Rattle.std.specs.FinMap as maps
use Rattle.meaning_files.specs.Files.{Files}
use Rattle.meaning_settling.specs.Settled.{settled}
use Rattle.meaning_settling.specs.Settling.{Copies, Moved, Kept}
use Rattle.meaning_areas.specs.Commits.{Commit}
use Rattle.meaning_areas.specs.Copies.{Backup}
use Rattle.meaning_areas.specs.Stands.{Stored, stored_with, txs_of}

pub data Stage : Type 0 where
  active : Stage
  prepared : Stage
  decided : Stage

-- A transaction: how far it is, whether it has a branch, what it gives and takes. One that is doomed gives and takes nothing.
pub record Work : Type 0 where
  pub stage : Stage
  pub branch : Bool
  pub moved : Moved

pub record Core : Type 0 where
  pub commits : List Commit
  pub files : Files
  pub copies : Copies
  pub backups : List Backup
  pub rows_opening : ℕ
  pub links_opening : ℕ
  pub works : ℕ → Option Work
  -- no transaction has a greater number
  pub drawn : ℕ

abbrev pub is_decided : Stage → Bool
is_decided active = false
is_decided prepared = false
is_decided decided = true

abbrev pub decided_work : Option Work → Option Moved
decided_work None = None
decided_work (Some w) = if is_decided w.stage && w.branch then Some w.moved else None

abbrev pub decided_in : Core → ℕ → Option Moved
decided_in c tx = decided_work (c.works tx)

abbrev pub core_kept : Core → Kept
core_kept c = record { files = c.files; copies = c.copies; held = maps.empty }

-- THE STORED PART of what settling leaves
abbrev pub core_stored : Core → Stored
core_stored c = stored_with c.commits c.backups c.rows_opening c.links_opening (settled (decided_in c) (txs_of c.commits) (core_kept c))

abbrev pub no_moved : Moved
no_moved = record { gives = []; takes = []; fill = false }

-- one transaction in another place
abbrev pub with_work : (ℕ → Option Work) → ℕ → Option Work → ℕ → Option Work
with_work works tx o q = if q == tx then o else works q
