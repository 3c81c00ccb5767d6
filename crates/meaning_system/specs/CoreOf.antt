-- The core of a state: what lists can know of it.
use Rattle.std.specs.Prelude.{◌≡◌, ◌≤◌, ℕ, Bool, true, false, Option, Some, None}
use Rattle.std.specs.FinMap as maps
use Rattle.dl_base.specs.declared.step.Phase.{Phase}
use Rattle.dl_base.specs.declared.step.Phase.TheVariants as phases
use Rattle.meaning_areas.specs.Core.{Stage, active, prepared, decided, Work, Core, no_moved}
use Rattle.meaning_settling.specs.Settling.{Moved}
use Rattle.meaning_system.specs.State.{Txn, State, number_of, moved_of, has_links, is_doomed}

abbrev pub stage_of : Phase → Stage
stage_of phases.Active = active
stage_of phases.Prepared = prepared
stage_of phases.Decided = decided
stage_of phases.Finished = active
stage_of phases.Dropped = active

-- a doomed transaction gives and takes nothing
abbrev pub claimed_by : Bool → Moved → Moved
claimed_by true m = no_moved
claimed_by false m = m

abbrev pub work_by : Phase → Moved → Work
work_by phase m = record { stage = stage_of phase; branch = has_links m; moved = m }

abbrev pub work_of : State → Txn → Work
work_of s t = work_by t.phase (claimed_by (is_doomed s t) (moved_of t))

abbrev pub work_at : State → Option Txn → Option Work
work_at s None = None
work_at s (Some t) = Some (work_of s t)

abbrev pub core_of : State → Core
core_of s = record {
  commits = s.commits;
  files = s.files;
  copies = s.copies;
  backups = s.backups;
  rows_opening = s.rows_opening;
  links_opening = s.links_opening;
  works = λ tx. work_at s (maps.get s.txs tx);
  drawn = number_of s;
}

-- the phases of transactions that have not ended
abbrev pub IsLive : Phase → Type 0
IsLive phases.Active = Unit {0}
IsLive phases.Prepared = Unit {0}
IsLive phases.Decided = Unit {0}
IsLive phases.Finished = ⊥
IsLive phases.Dropped = ⊥

-- what an opening of Links was seen, and what no claim means
abbrev pub Seen : Option ℕ → ℕ → Moved → Type 0
Seen None now m = m ≡ no_moved
Seen (Some seen) now m = seen ≤ now

-- AN INVARIANT OF STATES: transactions are live; one without an accepted claim has no links; no later opening was seen
pub record HasClaims (s : State) : Type 0 where
  pub live : (tx : ℕ) (t : Txn) → maps.get s.txs tx ≡ Some t → IsLive t.phase
  pub seen : (tx : ℕ) (t : Txn) → maps.get s.txs tx ≡ Some t → Seen t.seen s.links_opening (moved_of t)
