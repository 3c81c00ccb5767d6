-- A vote: when a transaction is voted for, what is made for it, and what its record leaves.
use Rattle.std.specs.Prelude.{◌≡◌, ℕ, ◌+◌, ◌≤◌, length, Result, Err, OnOk, Some, None}
use Rattle.std.specs.Result.{result_err}
use Rattle.dl_areas.specs.Writing.{Ends}
use Rattle.dl_base.specs.Outside.{Outside}
use Rattle.dl_base.specs.declared.fault.StepFault.{StepFault}
use Rattle.dl_base.specs.declared.fault.StepFault.TheVariants as faults
use Rattle.dl_base.specs.declared.step.Phase.TheVariants as phases
use Rattle.dl_base.specs.declared.step.Step.TheVariants as steps
use Rattle.fm_manager.specs.Managed.{as_writes}
use Rattle.meaning_system.specs.Claims.{prepare_refusal}
use Rattle.meaning_system.specs.Machine.{step}
use Rattle.meaning_system.specs.State.{State, Txn, moved_of, txn_of}
use Rattle.meaning_system.specs.Writes.{prepared}
use Rattle.sys_core.specs.Seated.{IsVote}
use Rattle.sys_core.specs.Standing.{IsOf}
use Rattle.sys_core.specs.declared.engine.Engine.{Engine}
use Rattle.sys_owners.specs.Owned.{journals_of}
use Rattle.sys_seats.specs.Seats.{all_of, gives_of, votes_of}
use Rattle.sys_seats.specs.declared.seat.Vote.{Vote}

-- the transaction of a session is active, and nothing refuses the vote
pub record CanVote (first : ℕ) (w : Engine) (s : State) (session tx : ℕ) (t : Txn) : Type 0 where
  pub state : IsOf first w s
  pub txn : txn_of s session ≡ Some (tx, t)
  pub active : t.phase ≡ phases.Active
  pub passes : prepare_refusal s t ≡ None

-- this was made for the vote, and there is room for its commit, and for copies of the links that it gives
pub record CanEnter (first : ℕ) (w : Engine) (s : State) (session tx : ℕ) (t : Txn) (vote : Vote) : Type 0 where
  pub can : CanVote first w s session tx t
  pub made : IsVote s tx t vote
  pub commits : all_of votes_of w.seats + 1 ≤ w.owners.store.spare
  pub copies : all_of gives_of w.seats + length (moved_of t).gives ≤ w.owners.manager.archive.spare

-- THE VOTE WAS WRITTEN, and the engine is in the state behind it; or for want of memory it is in the same state
pub record Votes (first : ℕ) (s : State) (session tx : ℕ) (t : Txn) (w v : Engine) (result : Result Unit StepFault) (o n : Outside) : Type 0 where
  pub voted : OnOk result (IsOf first v (step s (steps.Prepare session)).1)
  pub memory : result ≡ Err faults.Memory → IsOf first v s
  pub ends : Ends (journals_of w.owners) (journals_of v.owners) (as_writes (prepared tx (moved_of t))) (result_err result) o n
