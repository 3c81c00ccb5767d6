-- What is kept of transactions, and what a session's own object has of them.
use Rattle.std.specs.Prelude.{◌≡◌, ◌&&◌, ℕ, Bool, not, Option, Some, None}
use Rattle.std.specs.FinMap as maps
use Rattle.db_changes.specs.Made.{Making}
use Rattle.db_txn.specs.Transaction.{Transaction, made_of, vacant}
use Rattle.dl_base.specs.declared.step.Phase.{Phase}
use Rattle.dl_base.specs.declared.step.Phase.TheVariants as phases
use Rattle.fm_links.specs.Claims.{PathClaim, moved, without_claim}
use Rattle.fm_pieces.specs.Keeping.{HasPieces}
use Rattle.meaning_settling.specs.Keyed.{Keyed}
use Rattle.meaning_system.specs.CoreOf.{claimed_by}
use Rattle.meaning_system.specs.State.{State, Txn, differs, is_active, moved_of, txn_of}
use Rattle.sys_seats.specs.Seats.{Seated, phase_of}
use Rattle.sys_seats.specs.declared.seat.Seat.{Seat}
use Rattle.sys_seats.specs.declared.seat.Stage.{Stage}
use Rattle.sys_seats.specs.declared.seat.Stage.TheVariants as stages
use Rattle.sys_seats.specs.declared.seat.Vote.{Vote}

-- WHAT A SESSION HAS of its transaction; nothing of an evaluation is kept between two steps
abbrev pub shown_by : ℕ → Option (ℕ × Txn) → Transaction
shown_by session None = vacant session
shown_by session (Some e) = record {
  session = session;
  tx = Some e.0;
  base = e.1.base;
  copy = e.1.copy;
  named = e.1.named;
  next = e.1.next;
  made = not (is_active e.1.phase);
  kept = None;
}

abbrev pub HasTxn : State → Transaction → Type 0
HasTxn s v = v ≡ shown_by v.session (txn_of s v.session)

-- the commit of what a transaction has made
abbrev pub making_of : ℕ → Txn → Making
making_of tx t = made_of (shown_by 0 (Some (tx, t)))

-- what was made before a vote
pub record IsVote (s : State) (tx : ℕ) (t : Txn) (v : Vote) : Type 0 where
  pub made : v.made ≡ making_of tx t
  pub names : v.names ≡ t.named
  pub pieces : HasPieces s tx t v.pieces

-- a transaction is at a stage
abbrev pub IsAtStage : State → ℕ → Txn → Stage → Type 0
IsAtStage s tx t stages.Active = t.phase ≡ phases.Active
IsAtStage s tx t (stages.Prepared vote) = (t.phase ≡ phases.Prepared) × IsVote s tx t vote
IsAtStage s tx t (stages.Decided pieces) = (t.phase ≡ phases.Decided) × HasPieces s tx t pieces

-- this is kept of a transaction: what it gives and takes, whether it has claimed, and how far it is
pub record IsSeatOf (s : State) (tx : ℕ) (t : Txn) (x : Seat) : Type 0 where
  pub seen : x.claim.seen ≡ t.seen
  pub gives : x.claim.gives ≡ (moved_of t).gives
  pub takes : x.claim.takes ≡ (moved_of t).takes
  pub stage : IsAtStage s tx t x.stage

abbrev pub IsSeat : State → ℕ → Option Txn → Option Seat → Type 0
IsSeat s tx None None = Unit {0}
IsSeat s tx (Some t) (Some x) = IsSeatOf s tx t x
IsSeat s tx None (Some x) = ⊥
IsSeat s tx (Some t) None = ⊥

-- THE SEATS OF A STATE: of each transaction that has not ended, and of no other
abbrev pub AreSeated : State → Seated → Type 0
AreSeated s seats = (tx : ℕ) → IsSeat s tx (maps.get s.txs tx) (maps.get seats tx)

-- by what is kept of a transaction: how far it is, whether it is doomed, and the claims once it lets its own go

abbrev pub phase_at : Option Seat → Phase
phase_at None = phases.Dropped
phase_at (Some x) = phase_of x.stage

-- the session has a transaction, which is active
abbrev pub IsAtWork : Seated → Transaction → Type 0
IsAtWork seats v = (tx : ℕ) × (v.tx ≡ Some tx) × (phase_at (maps.get seats tx) ≡ phases.Active)

abbrev pub is_doomed_at : ℕ → Seat → Bool
is_doomed_at opening x = is_active (phase_of x.stage) && differs x.claim.seen opening

abbrev pub let_go : ℕ → Option Seat → Keyed PathClaim → Keyed PathClaim
let_go opening None claims = claims
let_go opening (Some x) claims = without_claim (claimed_by (is_doomed_at opening x) (moved x.claim.gives x.claim.takes)) claims
