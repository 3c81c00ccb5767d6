-- An engine in the middle of a step.
use Rattle.std.specs.Prelude.{◌≡◌, ◌≢◌, ◌+◌, ◌^◌, ◌<◌, ◌≤◌, ℕ, false, length, Option, Some, None}
use Rattle.std.specs.FinMap as maps
use Rattle.db_txn.specs.Transaction.{Transaction}
use Rattle.dl_base.specs.declared.answer.Refusal.{Refusal}
use Rattle.dl_base.specs.declared.step.Phase.{Phase}
use Rattle.dl_base.specs.declared.step.Phase.TheVariants as phases
use Rattle.fm_links.specs.Searching.{AreClaims}
use Rattle.fm_manager.specs.Pieces.{Pieces}
use Rattle.fm_pieces.specs.Keeping.{HasPieces}
use Rattle.meaning_areas.specs.Lists.{folds_on}
use Rattle.meaning_areas.specs.Same.{same_tables}
use Rattle.meaning_history.specs.Sound.{AreSound}
use Rattle.meaning_system.specs.Claims.{conflict}
use Rattle.meaning_system.specs.State.{State, Txn, kept_in, moved_of, tables_of, txn_of}
use Rattle.meaning_system.specs.Writes.{whole_finish}
use Rattle.sys_core.specs.Seated.{HasTxn, IsSeat, making_of}
use Rattle.sys_core.specs.declared.engine.Engine.{Engine}
use Rattle.sys_owners.specs.Owned.{Owned, folds_in}
use Rattle.sys_seats.specs.Seats.{all_of, gives_of, votes_of}
use Rattle.sys_seats.specs.declared.seat.SeatClaim.{SeatClaim}
use Rattle.sys_seats.specs.declared.seat.Stage.TheVariants as stages
use Rattle.sys_seats.specs.declared.seat.Vote.{Vote}

-- how many commits a transaction may still make
abbrev pub votes_in : Phase → ℕ
votes_in phases.Active = 0
votes_in phases.Prepared = 1
votes_in phases.Decided = 0
votes_in phases.Finished = 0
votes_in phases.Dropped = 0

-- AN ENGINE IN THE MIDDLE OF A STEP on the transaction of a session, which is in this phase and has these pieces: it is in a state of
-- the machine, but that what was kept of the transaction's stage is taken out.
pub record IsBetween (first : ℕ) (w : Engine) (s : State) (session tx : ℕ) (t : Txn) (phase : Phase) (pieces : Option Pieces) : Type 0 where
  pub is : txn_of s session ≡ Some (tx, t)
  pub in_phase : t.phase ≡ phase
  pub has : HasPieces s tx t pieces
  pub claim : SeatClaim
  pub at : maps.get w.seats tx ≡ Some (record { claim = claim; stage = stages.Decided None })
  pub gives : claim.gives ≡ (moved_of t).gives
  pub takes : claim.takes ≡ (moved_of t).takes
  pub seen : claim.seen ≡ t.seen
  pub others : (u : ℕ) → u ≢ tx → IsSeat s u (maps.get s.txs u) (maps.get w.seats u)
  pub sound : AreSound first (folds_in w.owners) s
  pub drawn : w.owners.store.drawn ≡ s.drawn
  pub few : s.drawn + 1 < 2 ^ 32
  pub moment : w.moment ≡ s.moment
  pub settings : w.settings ≡ s.settings
  pub claims : AreClaims w.claims.claims s
  -- the room that is left with what the transaction may still want
  pub commits : all_of votes_of w.seats + votes_in phase ≤ w.owners.store.spare
  pub copies : all_of gives_of w.seats ≤ w.owners.manager.archive.spare

-- a prepared transaction whose vote was taken out
pub record IsDeciding (first : ℕ) (w : Engine) (s : State) (v : Transaction) (tx : ℕ) (t : Txn) (vote : Vote) : Type 0 where
  pub between : IsBetween first w s v.session tx t phases.Prepared vote.pieces
  pub shown : HasTxn s v
  pub made : vote.made ≡ making_of tx t
  pub names : vote.names ≡ t.named

-- it changes something, and this is the conflict that it has, if it has one
abbrev pub DecidesTo : State → Txn → Option Refusal → Type 0
DecidesTo s t why = (same_tables t.base t.copy ≡ false) × (conflict t.base (tables_of s) t.named ≡ why)

-- THE FINISH of a transaction leads from these owners to those, with as much room but for the copies of what it gives
pub record IsSettled (w v : Owned) (s : State) (tx : ℕ) (t : Txn) : Type 0 where
  pub leads : folds_on (Some (folds_in w)) (whole_finish tx (moved_of t) (kept_in s)) ≡ Some (folds_in v)
  pub drawn : v.store.drawn ≡ w.store.drawn
  pub commits : w.store.spare ≤ v.store.spare
  pub copies : w.manager.archive.spare ≤ v.manager.archive.spare + length (moved_of t).gives
