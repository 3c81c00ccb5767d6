-- The state of the machine.
use Rattle.std.specs.Prelude.{ℕ, ◌+◌, ◌*◌, ◌^◌, ◌==◌, ◌&&◌, Bool, true, false, not, if◌then◌else◌, List, [], ◌∷◌, Option, Some, None}
use Rattle.std.specs.FinMap as maps
use Rattle.std.specs.List.{list_any}
use Rattle.std.specs.Ordering.{nat_cmp}
use Rattle.dl_base.specs.declared.step.Phase.{Phase}
use Rattle.dl_base.specs.declared.step.Phase.TheVariants as phases
use Rattle.dl_base.specs.declared.step.Settings.{Settings}
use Rattle.meaning_files.specs.Files.{Files}
use Rattle.meaning_areas.specs.Commits.{Commit, tables_after}
use Rattle.meaning_areas.specs.Copies.{Backup}
use Rattle.meaning_areas.specs.Stands.{Stored, stored_with, txs_of}
use Rattle.meaning_settling.specs.Settled.{settled}
use Rattle.meaning_settling.specs.Settling.{Copies, Moved, Kept}
use Rattle.meaning_sql.specs.declared.Context.{Context}
use Rattle.meaning_tables.specs.Links.{gives, takes}
use Rattle.meaning_tables.specs.Tables.{Tables}

-- A transaction that has not ended: the committed tables at its begin and its copy of them, the tables that its statements
-- named, in order, and the next count of its link numbers. Those that are decided were so in the order of their commits.
pub record Txn : Type 0 where
  pub base : Tables
  pub copy : Tables
  pub named : List (List ℕ)
  pub next : ℕ
  -- the opening of Links at the first accepted claim
  pub seen : Option ℕ
  pub phase : Phase

pub record State : Type 0 where
  pub commits : List Commit
  pub backups : List Backup
  pub copies : Copies
  pub files : Files
  pub moment : ℕ
  pub settings : Settings
  pub rows_opening : ℕ
  pub links_opening : ℕ
  -- the last number that was drawn in the present opening of Rows
  pub drawn : ℕ
  -- transactions by their numbers, and which one each session has
  pub txs : maps.FinMap nat_cmp Txn
  pub sessions : maps.FinMap nat_cmp ℕ

-- the committed tables
abbrev pub tables_of : State → Tables
tables_of s = tables_after [] s.commits

-- the number of the last transaction that was drawn
abbrev pub number_of : State → ℕ
number_of s = s.rows_opening * 2 ^ 32 + s.drawn

abbrev pub context_of : State → ℕ → Context
context_of s tx = record { server = s.settings.server; key = s.settings.key; now = s.moment; life = s.settings.life; tx = tx }

-- what a transaction gives and takes
abbrev pub moved_of : Txn → Moved
moved_of t = record { gives = gives t.base t.copy; takes = takes t.base t.copy; fill = false }

abbrev pub is_empty : {A : Type 0} → List A → Bool
is_empty [] = true
is_empty (x ∷ xs) = false

abbrev pub has_links : Moved → Bool
has_links m = not (is_empty m.gives && is_empty m.takes)

abbrev pub is_active : Phase → Bool
is_active phases.Active = true
is_active _ = false

abbrev pub is_prepared : Phase → Bool
is_prepared phases.Prepared = true
is_prepared _ = false

abbrev pub is_decided : Phase → Bool
is_decided phases.Decided = true
is_decided _ = false

abbrev pub differs : Option ℕ → ℕ → Bool
differs None now = false
differs (Some seen) now = not (seen == now)

abbrev pub is_doomed : State → Txn → Bool
is_doomed s t = is_active t.phase && differs t.seen s.links_opening

-- the state with a transaction, or without
abbrev pub with_txn : State → ℕ → Txn → State
with_txn s tx t = record s { txs = maps.insert s.txs tx t }

abbrev pub without_txn : State → ℕ → State
without_txn s tx = record s { txs = maps.remove s.txs tx }

-- the transaction of a session has ended
abbrev pub ended : State → ℕ → ℕ → State
ended s session tx = record s { txs = maps.remove s.txs tx; sessions = maps.remove s.sessions session }

-- the transaction of a session, with its number
abbrev pub numbered_txn : ℕ → Option Txn → Option (ℕ × Txn)
numbered_txn tx None = None
numbered_txn tx (Some t) = Some (tx, t)

abbrev pub txn_at : State → Option ℕ → Option (ℕ × Txn)
txn_at s None = None
txn_at s (Some tx) = numbered_txn tx (maps.get s.txs tx)

abbrev pub txn_of : State → ℕ → Option (ℕ × Txn)
txn_of s session = txn_at s (maps.get s.sessions session)

-- whether no session has a transaction
abbrev pub is_left : State → ℕ → Bool
is_left s tx = not (list_any (λ e. e.1 == tx) (maps.entries s.sessions))

-- settling

abbrev pub kept_in : State → Kept
kept_in s = record { files = s.files; copies = s.copies; held = maps.empty }

abbrev pub with_kept : State → Kept → State
with_kept s k = record s { files = k.files; copies = k.copies }

abbrev pub decided_moved : Option Txn → Option Moved
decided_moved None = None
decided_moved (Some t) = if is_decided t.phase then Some (moved_of t) else None

-- what decided transactions move; the others move nothing
abbrev pub decided_in : State → ℕ → Option Moved
decided_in s tx = decided_moved (maps.get s.txs tx)

-- SETTLING: sessions end, decided transactions are settled in the order of their commits, and all others dropped
abbrev pub settle : State → State
settle s = record (with_kept s (settled (decided_in s) (txs_of s.commits) (kept_in s))) { txs = maps.empty; sessions = maps.empty }

abbrev pub part_of : State → Stored
part_of s = stored_with s.commits s.backups s.rows_opening s.links_opening (kept_in s)

-- THE STORED PART of what settling leaves
abbrev pub stored : State → Stored
stored s = part_of (settle s)
