-- A VOTE AS A STEP of the machine: its record, the state behind it, and how the step ends.
use Rattle.std.proofs.Common.{◌≡◌, ◌≤◌, ◌+◌, ℕ, length, true, false, not, List, [], Option, Some, None, is_some, Result, Ok, Err, refl, sym, ◌∙◌, ap, subst, arith}
use Rattle.std.specs.FinMap as maps
use Rattle.db_txn.specs.Transaction.{Transaction, made_of, with_made}
use Rattle.dl_areas.specs.Writing.{Does, Ends}
use Rattle.dl_base.specs.Outside.{Outside}
use Rattle.dl_base.specs.declared.answer.Answer.{Answer}
use Rattle.dl_base.specs.declared.answer.Answer.TheVariants as answers
use Rattle.dl_base.specs.declared.answer.Refusal.{Refusal}
use Rattle.dl_base.specs.declared.fault.StepFault.{StepFault}
use Rattle.dl_base.specs.declared.fault.StepFault.TheVariants as faults
use Rattle.dl_base.specs.declared.step.Phase.{Phase}
use Rattle.dl_base.specs.declared.step.Phase.TheVariants as phases
use Rattle.dl_base.specs.declared.step.Step.TheVariants as steps
use Rattle.dl_base.specs.declared.value.LinkRow.{LinkRow}
use Rattle.fm_links.specs.Claims.{PathClaim, moved}
use Rattle.fm_links.specs.Searching.{AreClaims}
use Rattle.fm_manager.specs.Managed.{as_writes}
use Rattle.fm_manager.specs.Pieces.{Pieces}
use Rattle.fm_pieces.specs.Keeping.{HasPieces}
use Rattle.meaning_areas.proofs.Tables.{get-here, get-there}
use Rattle.meaning_areas.specs.Lists.{Folds, Written, folds_on}
use Rattle.meaning_history.specs.Sound.{AreSound}
use Rattle.meaning_settling.specs.Keyed.{Keyed}
use Rattle.meaning_settling.specs.Settling.{Moved}
use Rattle.meaning_system.specs.Claims.{prepare_refusal}
use Rattle.meaning_system.specs.Machine.{on_session, on_txn, step, voted, with_phase}
use Rattle.meaning_system.specs.State.{State, Txn, is_active, moved_of, txn_of, with_txn}
use Rattle.dl_base.specs.Answers.{is_refused}
use Rattle.meaning_system.specs.Writes.{prepared, session_writes, txn_writes, when, writes}
use Rattle.sys_core.proofs.Behind.{EachLeads, behind-sound, behind-taken, no-prepare}
use Rattle.sys_core.proofs.Ended.{SeatsPut}
use Rattle.sys_core.proofs.Knowing.{Knows, put-txn}
use Rattle.sys_core.proofs.Refused.{IsRefused}
use Rattle.sys_core.proofs.Roomy.{room-state}
use Rattle.sys_core.proofs.Seating.{pieces-kept, seat-of, seated-but}
use Rattle.sys_core.proofs.Voting.{there-in}
use Rattle.sys_core.specs.Seated.{AreSeated, IsSeat, IsSeatOf, IsVote, making_of, shown_by}
use Rattle.sys_core.specs.Standing.{IsOf}
use Rattle.sys_core.specs.Steps.{Shows, Steps}
use Rattle.sys_core.specs.Voting.{CanVote, Votes}
use Rattle.sys_core.specs.declared.engine.Engine.{Engine}
use Rattle.sys_owners.specs.Owned.{Owned, folds_in, journals_of}
use Rattle.sys_records.specs.Room.{HaveMoreRoom}
use Rattle.sys_seats.specs.Seats.{Seated, all_of, count_at, gives_of, votes_of, with_stage}
use Rattle.sys_seats.specs.declared.seat.Seat.{Seat}
use Rattle.sys_seats.specs.declared.seat.Stage.TheVariants as stages
use Rattle.sys_seats.specs.declared.seat.Vote.{Vote}

-- THE STEP of a session whose transaction is active: what it answers, and what it writes
module _ (s : State) (session tx : ℕ) (t : Txn) (of : txn_of s session ≡ Some (tx, t)) (active : t.phase ≡ phases.Active) where
  pub voted-so : (o : Option Refusal) → prepare_refusal s t ≡ o → step s (steps.Prepare session) ≡ voted s tx t o
  unfolding step
  voted-so o is =
      ap (λ (x : Option (ℕ × Txn)). on_session s (steps.Prepare session) x) of
      ∙ ap (λ (p : Phase). on_txn s (steps.Prepare session) tx t p) active
      ∙ ap (λ (x : Option Refusal). voted s tx t x) is

  writes-by : (a : Answer) → (step s (steps.Prepare session)).0 ≡ a → writes s (steps.Prepare session) ≡ when (not (is_refused a)) (prepared tx (moved_of t))
  unfolding writes
  writes-by a is =
      ap (λ (x : Answer). session_writes s (steps.Prepare session) x (txn_of s session)) is
      ∙ ap (λ (x : Option (ℕ × Txn)). session_writes s (steps.Prepare session) a x) of
      ∙ ap (λ (p : Phase). txn_writes s (steps.Prepare session) tx t p a) active

  pub voted-writes : prepare_refusal s t ≡ None → writes s (steps.Prepare session) ≡ prepared tx (moved_of t)
  voted-writes passes = writes-by answers.Done (ap (λ (r : Answer × State). r.0) (voted-so None passes))

  pub refused-writes : (why : Refusal) → prepare_refusal s t ≡ Some why → writes s (steps.Prepare session) ≡ []
  refused-writes why is = writes-by (answers.Refused why) (ap (λ (r : Answer × State). r.0) (voted-so (Some why) is))

-- the transaction, the state and the seat behind it

abbrev pub voted-txn : Txn → Txn
voted-txn t = with_phase t phases.Prepared

abbrev pub voted-state : State → ℕ → Txn → State
voted-state s tx t = with_txn s tx (with_phase t phases.Prepared)

abbrev pub voted-seat : Vote → Seat → Seat
voted-seat vote x = record { claim = x.claim; stage = stages.Prepared vote }

-- neither files nor copies differ
pub seat-voted : (s : State) (tx : ℕ) (t : Txn) (x : Seat) (vote : Vote) → IsSeatOf s tx t x → IsVote s tx t vote → IsSeatOf (voted-state s tx t) tx (voted-txn t) (voted-seat vote x)
seat-voted s tx t x vote is made = record {
  seen = is.seen;
  gives = is.gives;
  takes = is.takes;
  stage = (refl, record { made = made.made; names = made.names; pieces = by vote.pieces made.pieces });
}
  where
    by : (p : Option Pieces) → HasPieces s tx t p → HasPieces (voted-state s tx t) tx (voted-txn t) p
    by None has = has
    by (Some p) has = has

-- WHAT THE CRATES BELOW PROMISE
pub record Laws : Type 0 where
  pub leads : EachLeads
  pub claims : (first : ℕ) (f : Folds) (s : State) (mine : Keyed PathClaim) (session : ℕ) → AreSound first f s → AreClaims mine s → AreClaims mine (step s (steps.Prepare session)).1
  pub counts : SeatsPut

module _ (laws : Laws) (first : ℕ) (w : Engine) (s : State) (session tx : ℕ) (t : Txn) (can : CanVote first w s session tx t) where
  pub seat-of-vote : (x : Seat) × (maps.get w.seats tx ≡ Some x) × IsSeatOf s tx t x
  seat-of-vote = seat-of s w.seats tx t can.state.seats (there-in s session tx t can.txn)

  written : writes s (steps.Prepare session) ≡ prepared tx (moved_of t)
  written = voted-writes s session tx t can.txn can.active can.passes

  -- its record is taken
  pub vote-taken : (gives takes : List LinkRow) → ◌≡◌ {A = Moved} (moved gives takes) (moved_of t) → is_some (folds_on (Some (folds_in w.owners)) (prepared tx (moved gives takes))) ≡ true
  vote-taken gives takes same =
      ap (λ (m : Moved). is_some (folds_on (Some (folds_in w.owners)) (prepared tx m))) same
      ∙ ap (λ (xs : List Written). is_some (folds_on (Some (folds_in w.owners)) xs)) (sym written)
      ∙ behind-taken laws.leads first (folds_in w.owners) s (steps.Prepare session) can.state.sound can.state.few (no-prepare session)

  stepped : (step s (steps.Prepare session)).1 ≡ voted-state s tx t
  stepped = ap (λ (r : Answer × State). r.1) (voted-so s session tx t can.txn can.active None can.passes)

  module _ (vote : Vote) (made : IsVote s tx t vote) (u : Owned) (leads : folds_on (Some (folds_in w.owners)) (prepared tx (moved_of t)) ≡ Some (folds_in u)) (drawn : u.store.drawn ≡ w.owners.store.drawn)
      (commits : all_of votes_of w.seats + 1 ≤ u.store.spare) (copies : all_of gives_of w.seats + length (moved_of t).gives ≤ u.manager.archive.spare) where
    abbrev later : Seated
    later = with_stage w.seats tx (stages.Prepared vote) (maps.get w.seats tx)

    put : later ≡ maps.insert w.seats tx (voted-seat vote seat-of-vote.0)
    put = ap (λ (o : Option Seat). with_stage w.seats tx (stages.Prepared vote) o) seat-of-vote.1

    sound : AreSound first (folds_in u) (voted-state s tx t)
    sound = behind-sound laws.leads first (folds_in w.owners) s (steps.Prepare session) can.state.sound can.state.few (no-prepare session) (folds_in u) (voted-state s tx t)
        (ap (folds_on (Some (folds_in w.owners))) written ∙ leads) stepped

    own : IsSeat (voted-state s tx t) tx (maps.get (voted-state s tx t).txs tx) (maps.get later tx)
    own =
        subst (λ (o : Option Txn). IsSeat (voted-state s tx t) tx o (maps.get later tx)) (sym (get-here s.txs tx (voted-txn t)))
        (subst (λ (o : Option Seat). IsSeat (voted-state s tx t) tx (Some (voted-txn t)) o) (sym (ap (λ (seats : Seated). maps.get seats tx) put ∙ get-here w.seats tx (voted-seat vote seat-of-vote.0)))
        (seat-voted s tx t seat-of-vote.0 vote seat-of-vote.2 made))

    seated : AreSeated (voted-state s tx t) later
    seated = seated-but s (voted-state s tx t) w.seats later can.state.seats tx (get-there s.txs tx (voted-txn t)) (pieces-kept tx s (voted-state s tx t) refl refl)
        (λ u other. ap (λ (seats : Seated). maps.get seats u) put ∙ get-there w.seats tx (voted-seat vote seat-of-vote.0) u other) own

    -- one more counts so much more, at most
    by : (n i c a k room : ℕ) → n ≡ i → i + c ≡ a + k → a + k ≤ room → n ≤ room
    by n i c a k room same count le = omega (arith, same, count, le)

    room-votes : all_of votes_of later ≤ u.store.spare
    room-votes =
        by (all_of votes_of later) (all_of votes_of (maps.insert w.seats tx (voted-seat vote seat-of-vote.0))) (count_at votes_of (maps.get w.seats tx)) (all_of votes_of w.seats) 1 u.store.spare
        (ap (all_of votes_of) put) (laws.counts votes_of w.seats tx (voted-seat vote seat-of-vote.0)) commits

    room-copies : all_of gives_of later ≤ u.manager.archive.spare
    room-copies =
        by (all_of gives_of later) (all_of gives_of (maps.insert w.seats tx (voted-seat vote seat-of-vote.0))) (count_at gives_of (maps.get w.seats tx)) (all_of gives_of w.seats) (length seat-of-vote.0.claim.gives) u.manager.archive.spare
        (ap (all_of gives_of) put) (laws.counts gives_of w.seats tx (voted-seat vote seat-of-vote.0))
        (subst (λ (ls : List LinkRow). all_of gives_of w.seats + length ls ≤ u.manager.archive.spare) (sym seat-of-vote.2.gives) copies)

    -- THE ENGINE IS IN THE STATE BEHIND THE VOTE
    pub vote-state : IsOf first (record w { owners = u; seats = with_stage w.seats tx (stages.Prepared vote) (maps.get w.seats tx) }) (step s (steps.Prepare session)).1
    vote-state =
        subst (λ (y : State). IsOf first (record w { owners = u; seats = with_stage w.seats tx (stages.Prepared vote) (maps.get w.seats tx) }) y) (sym stepped)
        (record {
          sound = sound;
          drawn = drawn ∙ can.state.drawn;
          few = can.state.few;
          moment = can.state.moment;
          settings = can.state.settings;
          claims = subst (λ (y : State). AreClaims w.claims.claims y) stepped (laws.claims first (folds_in w.owners) s w.claims.claims session can.state.sound can.state.claims);
          seats = seated;
          room = record { commits = room-votes; copies = room-copies };
        })

-- with more room a vote can be written
pub can-roomy : (first : ℕ) (w : Engine) (s : State) (session tx : ℕ) (t : Txn) (u : Owned) → HaveMoreRoom w.owners u → CanVote first w s session tx t → CanVote first (record w { owners = u }) s session tx t
can-roomy first w s session tx t u r can = record { state = room-state first w s u r can.state; txn = can.txn; active = can.active; passes = can.passes }

-- HOW THE STEP ENDS

-- the vote is refused
pub refused-vote : (s : State) (session tx : ℕ) (t : Txn) (why : Refusal) → txn_of s session ≡ Some (tx, t) → t.phase ≡ phases.Active → prepare_refusal s t ≡ Some why → IsRefused s (steps.Prepare session) why
refused-vote s session tx t why of active is = record { is = voted-so s session tx t of active (Some why) is; records = ap as_writes (refused-writes s session tx t of active why is) }

ok_err : {T E : Type 0} (x : T) (e : E) → ◌≡◌ {A = Result T E} (Ok x) (Err e) → ⊥
ok_err x e is = cc

fault-same : (r : Result Answer StepFault) (f e : StepFault) → r ≡ Err f → r ≡ Err e → f ≡ e
fault-same r f e one other = cc

-- with the vote
module _ (first : ℕ) (w v : Engine) (s : State) (session tx : ℕ) (t : Txn) (can : CanVote first w s session tx t) (o n : Outside) where
  pub voted-steps : Votes first s session tx t w v (Ok tt) o n → Steps first (steps.Prepare session) s w v (Ok answers.Done) o n
  voted-steps votes = record {
    answers = record { answer = sym (ap (λ (r : Answer × State). r.0) (voted-so s session tx t can.txn can.active None can.passes)); state = votes.voted };
    memory = λ e. absurd (ok_err answers.Done _ e);
    ends = subst (λ (xs : List Written). Ends (journals_of w.owners) (journals_of v.owners) (as_writes xs) None o n) (sym (voted-writes s session tx t can.txn can.active can.passes)) votes.ends;
  }

  pub fault-steps : (f : StepFault) → Votes first s session tx t w v (Err f) o n → Steps first (steps.Prepare session) s w v (Err f) o n
  fault-steps f votes = record {
    answers = tt;
    memory = λ e. votes.memory (ap (λ (g : StepFault). Err g) (fault-same (Err f) f faults.Memory refl e));
    ends = subst (λ (xs : List Written). Ends (journals_of w.owners) (journals_of v.owners) (as_writes xs) (Some f) o n) (sym (voted-writes s session tx t can.txn can.active can.passes)) votes.ends;
  }

-- for want of memory, before anything was made or written
pub memory-steps : (first : ℕ) (w : Engine) (s : State) (session : ℕ) (o : Outside) → Does (journals_of w.owners) (journals_of w.owners) [] None o o → IsOf first w s → Steps first (steps.Prepare session) s w w (Err faults.Memory) o o
memory-steps first w s session o none is = record { answers = tt; memory = λ e. is; ends = none }

-- WHAT THE SESSION'S OBJECT HAS behind it

module _ (s : State) (v : Transaction) (tx : ℕ) (t : Txn) (knows : Knows s v tx t) (active : t.phase ≡ phases.Active) where
  -- it is active before
  pub not-made : v.made ≡ false
  not-made = knows.made ∙ ap (λ (p : Phase). not (is_active p)) active

  pub made-so : made_of v ≡ making_of tx t
  made-so = ap made_of knows.is

  pub voted-shows : prepare_refusal s t ≡ None → Shows (steps.Prepare v.session) s v (with_made v true) (Ok answers.Done)
  voted-shows passes = record {
    shown =
        ap (λ (y : Transaction). with_made y true) knows.is
        ∙ ap (shown_by v.session) (sym (put-txn s (voted-state s tx t) v.session tx (voted-txn t) refl refl knows.session))
        ∙ ap (λ (r : Answer × State). shown_by v.session (txn_of r.1 v.session)) (sym (voted-so s v.session tx t knows.of active None passes));
    memory = λ e. absurd (ok_err answers.Done _ e);
  }

  -- after a fault it is active again
  pub reopened : with_made (with_made v true) false ≡ v
  reopened = λ i. with_made v (sym not-made i)

-- a fault, behind which it is as it was
pub fault-shows : (s : State) (session : ℕ) (before after : Transaction) (f : StepFault) → after ≡ before → Shows (steps.Prepare session) s before after (Err f)
fault-shows s session before after f same = record { shown = tt; memory = λ e. same }
