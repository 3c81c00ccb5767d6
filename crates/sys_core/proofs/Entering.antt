-- A VOTE IS WRITTEN AND KEPT, or is not, by the owners that are left.
use Rattle.std.proofs.Common.{◌≡◌, ◌≤◌, ◌+◌, ℕ, length, List, [], Option, Some, None, Result, Ok, Err, sym, ◌∙◌, ap, subst}
use Rattle.std.specs.FinMap as maps
use Rattle.std.specs.Result.{result_err}
use Rattle.db_changes.specs.Made.{Making}
use Rattle.dl_areas.specs.Lists.{Journals}
use Rattle.dl_areas.specs.Writing.{Does, Ends}
use Rattle.dl_base.specs.Outside.{Outside}
use Rattle.dl_base.specs.declared.fault.StepFault.{StepFault}
use Rattle.dl_base.specs.declared.fault.StepFault.TheVariants as faults
use Rattle.dl_base.specs.declared.step.Step.TheVariants as steps
use Rattle.dl_base.specs.declared.value.LinkRow.{LinkRow}
use Rattle.fm_links.specs.Claims.{moved}
use Rattle.fm_manager.specs.Managed.{as_writes}
use Rattle.fm_pieces.specs.Keeping.{HasPieces}
use Rattle.meaning_areas.specs.Lists.{folds_on}
use Rattle.meaning_settling.specs.Settling.{Moved}
use Rattle.meaning_system.specs.Machine.{step}
use Rattle.meaning_system.specs.State.{State, Txn, moved_of}
use Rattle.meaning_system.specs.Writes.{prepared}
use Rattle.sys_core.proofs.Roomy.{room-state}
use Rattle.sys_core.proofs.Seating.{seat-moved}
use Rattle.sys_core.proofs.Voted.{Laws, can-roomy, vote-state}
use Rattle.sys_core.specs.Seated.{IsSeatOf, making_of}
use Rattle.sys_core.specs.Standing.{IsOf}
use Rattle.sys_core.specs.Voting.{CanEnter, CanVote, Votes}
use Rattle.sys_core.specs.declared.engine.Engine.{Engine}
use Rattle.sys_owners.specs.Owned.{Owned, folds_in, journals_of}
use Rattle.sys_records.proofs.Roomy.{room-journals}
use Rattle.sys_records.specs.Room.{HaveMoreRoom}
use Rattle.sys_seats.specs.Seats.{Seated, all_of, gives_of, votes_of, with_stage}
use Rattle.sys_seats.specs.declared.seat.Seat.{Seat}
use Rattle.sys_seats.specs.declared.seat.Stage.TheVariants as stages
use Rattle.sys_seats.specs.declared.seat.Vote.{Vote}

module _ (first : ℕ) (s : State) (session tx : ℕ) (t : Txn) (w : Engine) (can : CanVote first w s session tx t) where
  -- BEFORE IT IS WRITTEN there is more room
  module _ (u : Owned) (r : HaveMoreRoom w.owners u) where
    -- or none, for want of memory
    pub no-vote : (o : Outside) → Does (journals_of w.owners) (journals_of w.owners) [] None o o → Votes first s session tx t w (record w { owners = u }) (Err faults.Memory) o o
    no-vote o none = record {
      voted = tt;
      memory = λ e. room-state first w s u r can.state;
      ends = subst (λ (ks : Journals). Does (journals_of w.owners) ks [] None o o) (sym (room-journals w.owners u r)) none;
    }

    -- what was made for it
    pub can-enter : (x : Seat) (vote : Vote) (names : List (List ℕ)) (made : Making) → IsSeatOf s tx t x → vote.made ≡ made → made ≡ making_of tx t → vote.names ≡ names → names ≡ t.named → HasPieces s tx t vote.pieces
        → all_of votes_of w.seats + 1 ≤ u.store.spare → all_of gives_of w.seats + length x.claim.gives ≤ u.manager.archive.spare → CanEnter first (record w { owners = u }) s session tx t vote
    can-enter x vote names made is as_made is_made as_names is_names pieces commits copies = record {
      can = can-roomy first w s session tx t u r can;
      made = record { made = as_made ∙ is_made; names = as_names ∙ is_names; pieces = pieces };
      commits = commits;
      copies = subst (λ (ls : List LinkRow). all_of gives_of w.seats + length ls ≤ u.manager.archive.spare) is.gives copies;
    }

    pub roomy-votes : (v : Engine) (result : Result Unit StepFault) (o n : Outside) → Votes first s session tx t (record w { owners = u }) v result o n → Votes first s session tx t w v result o n
    roomy-votes v result o n votes = record {
      voted = votes.voted;
      memory = votes.memory;
      ends = subst (λ (js : Journals). Ends js (journals_of v.owners) (as_writes (prepared tx (moved_of t))) (result_err result) o n) (room-journals w.owners u r) votes.ends;
    }

module _ (first : ℕ) (s : State) (session tx : ℕ) (t : Txn) (w : Engine) (vote : Vote) (can : CanEnter first w s session tx t vote) (x : Seat) (is : IsSeatOf s tx t x) (u : Owned) (o n : Outside) where
  -- its record, as that of what the seat has
  ends-as : (fault : Option StepFault) → Ends (journals_of w.owners) (journals_of u) (as_writes (prepared tx (moved x.claim.gives x.claim.takes))) fault o n → Ends (journals_of w.owners) (journals_of u) (as_writes (prepared tx (moved_of t))) fault o n
  ends-as fault ends = subst (λ (m : Moved). Ends (journals_of w.owners) (journals_of u) (as_writes (prepared tx m)) fault o n) (seat-moved s tx t x is) ends

  -- IT IS WRITTEN
  pub entered : Laws → (seats : Seated) → folds_on (Some (folds_in w.owners)) (prepared tx (moved x.claim.gives x.claim.takes)) ≡ Some (folds_in u)
      → u ≡ record w.owners { manager = record w.owners.manager { links = u.manager.links } } → seats ≡ with_stage w.seats tx (stages.Prepared vote) (maps.get w.seats tx)
      → Ends (journals_of w.owners) (journals_of u) (as_writes (prepared tx (moved x.claim.gives x.claim.takes))) None o n → Votes first s session tx t w (record w { owners = u; seats = seats }) (Ok tt) o n
  entered laws seats leads same put ends =
      let state : IsOf first (record w { owners = u; seats = with_stage w.seats tx (stages.Prepared vote) (maps.get w.seats tx) }) (step s (steps.Prepare session)).1 =
      vote-state laws first w s session tx t can.can vote can.made u
      (ap (λ (m : Moved). folds_on (Some (folds_in w.owners)) (prepared tx m)) (sym (seat-moved s tx t x is)) ∙ leads)
      (ap (λ (v : Owned). v.store.drawn) same)
      (subst (λ (room : ℕ). all_of votes_of w.seats + 1 ≤ room) (sym (ap (λ (v : Owned). v.store.spare) same)) can.commits)
      (subst (λ (room : ℕ). all_of gives_of w.seats + length (moved_of t).gives ≤ room) (sym (ap (λ (v : Owned). v.manager.archive.spare) same)) can.copies) in
      record {
        voted = subst (λ (later : Seated). IsOf first (record w { owners = u; seats = later }) (step s (steps.Prepare session)).1) (sym put) state;
        memory = λ e. absurd (ok_err tt _ e);
        ends = ends-as None ends;
      }
    where
      ok_err : {T E : Type 0} (y : T) (e : E) → ◌≡◌ {A = Result T E} (Ok y) (Err e) → ⊥
      ok_err y e never = cc

  -- IT IS NOT: the owners are as they were
  pub not-entered : (fault : StepFault) → u ≡ w.owners → Ends (journals_of w.owners) (journals_of u) (as_writes (prepared tx (moved x.claim.gives x.claim.takes))) (Some fault) o n
      → Votes first s session tx t w (record w { owners = u }) (Err fault) o n
  not-entered fault same ends = record {
    voted = tt;
    memory = λ e. subst (λ (v : Owned). IsOf first (record w { owners = v }) s) (sym same) can.can.state;
    ends = ends-as (Some fault) ends;
  }
