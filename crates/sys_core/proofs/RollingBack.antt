-- A TRANSACTION IS ROLLED BACK.
use Rattle.std.proofs.Common.{◌≡◌, ℕ, List, [], ◌∷◌, Bool, true, false, Option, Some, None, Result, Ok, Err, is_some, refl, sym, ◌∙◌, ap, subst}
use Rattle.std.specs.FinMap as maps
use Rattle.db_store.specs.Store.{Database}
use Rattle.db_txn.specs.Transaction.{Transaction, vacant}
use Rattle.dl_areas.specs.Writing.{Does}
use Rattle.dl_base.specs.Outside.{Outside}
use Rattle.dl_base.specs.declared.answer.Answer.{Answer}
use Rattle.dl_base.specs.declared.answer.Answer.TheVariants as answers
use Rattle.dl_base.specs.declared.fault.AppendFault.{AppendFault}
use Rattle.dl_base.specs.declared.fault.AppendFault.TheVariants as appends
use Rattle.dl_base.specs.declared.step.Phase.{Phase}
use Rattle.dl_base.specs.declared.step.Phase.TheVariants as phases
use Rattle.dl_base.specs.declared.step.Step.TheVariants as steps
use Rattle.dl_codec.specs.declared.links.LinksRecord.TheVariants as links_records
use Rattle.fm_links.specs.Claims.{ClaimTable, PathClaim, without_claim}
use Rattle.fm_links.specs.Searching.{AreClaims}
use Rattle.fm_links.specs.Stepping.{claimed_in}
use Rattle.fm_manager.specs.Managed.{IsTakenBy, as_writes}
use Rattle.fm_manager.specs.Pieces.{Pieces}
use Rattle.fm_pieces.specs.Keeping.{HasPieces}
use Rattle.meaning_areas.specs.Lists.{Folds, Written, folds_on, in_links}
use Rattle.meaning_history.specs.Sound.{AreSound}
use Rattle.meaning_settling.specs.Keyed.{Keyed}
use Rattle.meaning_system.specs.Machine.{on_session, on_txn, step}
use Rattle.meaning_system.specs.State.{State, Txn, ended, has_links, is_decided, moved_of, txn_of}
use Rattle.meaning_system.specs.Writes.{session_writes, txn_writes, when, writes}
use Rattle.sys_core.proofs.Behind.{EachLeads, behind-sound, no-rollback}
use Rattle.sys_core.proofs.Ended.{SeatsTaken, count-taken, ended-is, forgets, loses, room-less, spare-same}
use Rattle.sys_core.proofs.Knowing.{Knows, ended-txn}
use Rattle.sys_core.proofs.Seating.{let-go, pieces-kept, seat-of}
use Rattle.sys_core.specs.Seated.{AreSeated, IsAtStage, IsSeatOf, let_go, shown_by}
use Rattle.sys_core.specs.Standing.{IsOf}
use Rattle.sys_core.specs.Steps.{Shows, Steps, as_step}
use Rattle.sys_core.specs.declared.engine.Engine.{Engine}
use Rattle.sys_owners.proofs.Taking.{AreManaged, taken-anywhere}
use Rattle.sys_owners.specs.Owned.{folds_in, journals_of}
use Rattle.sys_seats.specs.Seats.{Seated}
use Rattle.sys_seats.specs.declared.seat.Seat.{Seat}
use Rattle.sys_seats.specs.declared.seat.Stage.{Stage}
use Rattle.sys_seats.specs.declared.seat.Stage.TheVariants as stages

-- THE RECORD of one that is prepared, where it has a branch

abbrev pub aborts : Bool → ℕ → List Written
aborts branch tx = when branch (in_links (links_records.Aborted tx) ∷ [])

aborts-managed : (branch : Bool) (tx : ℕ) → AreManaged (aborts branch tx)
aborts-managed true tx = (tt, tt)
aborts-managed false tx = tt

pub aborts-taken : (w : Engine) (branch : Bool) (tx : ℕ) → is_some (folds_on (Some (folds_in w.owners)) (aborts branch tx)) ≡ true → IsTakenBy w.owners.manager (aborts branch tx)
aborts-taken w branch tx = taken-anywhere w.owners.manager w.owners.store.rows w.owners.backups.backups (aborts branch tx) (aborts-managed branch tx)

-- WHETHER IT HAS ONE

pieces-links : (s : State) (tx : ℕ) (t : Txn) (p : Option Pieces) → HasPieces s tx t p → is_some p ≡ has_links (moved_of t)
pieces-links s tx t None has = sym has
pieces-links s tx t (Some p) has = sym has.0

abbrev pub stage-branch : Stage → Bool
stage-branch stages.Active = false
stage-branch (stages.Prepared vote) = is_some vote.pieces
stage-branch (stages.Decided pieces) = false

abbrev pub seat-branch : Option Seat → Bool
seat-branch None = false
seat-branch (Some x) = stage-branch x.stage

active_prepared : phases.Active ≡ phases.Prepared → ⊥
active_prepared e = cc

decided_prepared : phases.Decided ≡ phases.Prepared → ⊥
decided_prepared e = cc

stage-links : (s : State) (tx : ℕ) (t : Txn) (x : Stage) → t.phase ≡ phases.Prepared → IsAtStage s tx t x → stage-branch x ≡ has_links (moved_of t)
stage-links s tx t stages.Active is at = absurd (active_prepared (sym at ∙ is))
stage-links s tx t (stages.Prepared vote) is at = pieces-links s tx t vote.pieces at.1.pieces
stage-links s tx t (stages.Decided pieces) is at = absurd (decided_prepared (sym at.0 ∙ is))

pub seat-links : (s : State) (seats : Seated) (tx : ℕ) (t : Txn) → AreSeated s seats → maps.get s.txs tx ≡ Some t → t.phase ≡ phases.Prepared → seat-branch (maps.get seats tx) ≡ has_links (moved_of t)
seat-links s seats tx t are at is =
    let x = seat-of s seats tx t are at in
    ap seat-branch x.1 ∙ stage-links s tx t x.0.stage is x.2.stage

-- AN ENGINE WITH OTHER LINKS, and nothing else
pub record IsBeside (w m : Engine) : Type 0 where
  pub seats : m.seats ≡ w.seats
  pub claims : m.claims ≡ w.claims
  pub moment : m.moment ≡ w.moment
  pub settings : m.settings ≡ w.settings
  pub store : m.owners.store ≡ w.owners.store
  pub copies : m.owners.manager.archive.spare ≡ w.owners.manager.archive.spare

pub beside-self : (w : Engine) → IsBeside w w
beside-self w = record { seats = refl; claims = refl; moment = refl; settings = refl; store = refl; copies = refl }

pub beside-links : (w m : Engine) → m ≡ record w { owners = record w.owners { manager = record w.owners.manager { links = m.owners.manager.links } } } → IsBeside w m
beside-links w m is = record {
  seats = ap (λ (e : Engine). e.seats) is;
  claims = ap (λ (e : Engine). e.claims) is;
  moment = ap (λ (e : Engine). e.moment) is;
  settings = ap (λ (e : Engine). e.settings) is;
  store = ap (λ (e : Engine). e.owners.store) is;
  copies = ap (λ (e : Engine). e.owners.manager.archive.spare) is;
}

-- what becomes of claims
abbrev pub ClaimsRollback : Type 0
ClaimsRollback =
    (first : ℕ) (f : Folds) (s : State) (claims : Keyed PathClaim) (session tx : ℕ) (t : Txn) → AreSound first f s → AreClaims claims s → txn_of s session ≡ Some (tx, t) → is_decided t.phase ≡ false
    → AreClaims (without_claim (claimed_in s t) claims) (step s (steps.Rollback session)).1

-- WHAT THE MACHINE DOES
module _ (s : State) (session tx : ℕ) (t : Txn) (of : txn_of s session ≡ Some (tx, t)) where
  pub active-step : t.phase ≡ phases.Active → step s (steps.Rollback session) ≡ (answers.Done, ended s session tx)
  unfolding step
  active-step is = ap (on_session s (steps.Rollback session)) of ∙ ap (on_txn s (steps.Rollback session) tx t) is

  pub prepared-step : t.phase ≡ phases.Prepared → step s (steps.Rollback session) ≡ (answers.Done, ended s session tx)
  unfolding step
  prepared-step is = ap (on_session s (steps.Rollback session)) of ∙ ap (on_txn s (steps.Rollback session) tx t) is

  of-it : (p : Phase) → t.phase ≡ p → writes s (steps.Rollback session) ≡ txn_writes s (steps.Rollback session) tx t p (step s (steps.Rollback session)).0
  unfolding writes
  of-it p is =
      ap (session_writes s (steps.Rollback session) (step s (steps.Rollback session)).0) of
      ∙ ap (λ (q : Phase). txn_writes s (steps.Rollback session) tx t q (step s (steps.Rollback session)).0) is

  pub active-writes : t.phase ≡ phases.Active → writes s (steps.Rollback session) ≡ []
  active-writes is = of-it phases.Active is

  pub prepared-writes : t.phase ≡ phases.Prepared → (branch : Bool) → branch ≡ has_links (moved_of t) → writes s (steps.Rollback session) ≡ aborts branch tx
  prepared-writes is branch has = of-it phases.Prepared is ∙ ap (λ (b : Bool). aborts b tx) (sym has)

-- THE ENGINE BEHIND IT
module _ (law : EachLeads) (claim : ClaimsRollback) (taken : SeatsTaken) (first : ℕ) (w m v : Engine) (s : State) (a b : Transaction) (tx : ℕ) (t : Txn) (is : IsOf first w s) (knows : Knows s a tx t) where
  abbrev later : State
  later = ended s a.session tx

  module _ (does : step s (steps.Rollback a.session) ≡ (answers.Done, later)) (undecided : is_decided t.phase ≡ false) (beside : IsBeside w m) (leads : folds_on (Some (folds_in w.owners)) (writes s (steps.Rollback a.session)) ≡ Some (folds_in m.owners))
      (claims : v.claims.claims ≡ let_go m.owners.manager.links.links.opening (maps.get m.seats tx) m.claims.claims) (ends : v ≡ record m { claims = v.claims; seats = maps.remove m.seats tx }) where
    state : (step s (steps.Rollback a.session)).1 ≡ later
    state = ap (λ (e : Answer × State). e.1) does

    sound-in : AreSound first (folds_in m.owners) later
    sound-in = behind-sound law first (folds_in w.owners) s (steps.Rollback a.session) is.sound is.few (no-rollback a.session) (folds_in m.owners) later leads state

    sound : AreSound first (folds_in v.owners) later
    sound = subst (λ (f : Folds). AreSound first f later) (sym (ap (λ (e : Engine). folds_in e.owners) ends)) sound-in

    seat : (x : Seat) × (maps.get w.seats tx ≡ Some x) × IsSeatOf s tx t x
    seat = seat-of s w.seats tx t is.seats knows.there

    claims-are : v.claims.claims ≡ without_claim (claimed_in s t) w.claims.claims
    claims-are =
        claims
        ∙ let-go s tx t (maps.get m.seats tx) seat.0 m.owners.manager.links.links.opening m.claims.claims (ap (λ (q : Seated). maps.get q tx) beside.seats ∙ seat.1) seat.2 sound-in.follows.joint.links_opening
        ∙ ap (λ (c : ClaimTable). without_claim (claimed_in s t) c.claims) beside.claims

    claimed : AreClaims v.claims.claims later
    claimed =
        subst (λ (c : Keyed PathClaim). AreClaims c later) (sym claims-are)
        (subst (λ (k : State). AreClaims (without_claim (claimed_in s t) w.claims.claims) k) state
        (claim first (folds_in w.owners) s w.claims.claims a.session tx t is.sound is.claims knows.of undecided))

    pub rolled-back : IsOf first v later
    rolled-back =
        ended-is first w v s later tx is
        (loses w m v tx (ap (λ (d : Database). d.drawn) beside.store) beside.moment beside.settings (λ u other. ap (λ (q : Seated). maps.get q u) beside.seats) ends)
        (forgets s s a.session tx refl refl refl refl (pieces-kept tx s later refl refl))
        sound claimed
        (room-less w v tx is.room (count-taken taken w.seats tx v.seats (ap (λ (e : Engine). e.seats) ends ∙ ap (λ (q : Seated). maps.remove q tx) beside.seats))
        (spare-same v.owners.store.spare w.owners.store.spare _ (ap (λ (e : Engine). e.owners.store.spare) ends ∙ ap (λ (d : Database). d.spare) beside.store))
        (spare-same v.owners.manager.archive.spare w.owners.manager.archive.spare _ (ap (λ (e : Engine). e.owners.manager.archive.spare) ends ∙ beside.copies)))

    -- as a step
    pub rolls-back : (o n : Outside) → Does (journals_of w.owners) (journals_of m.owners) (as_writes (writes s (steps.Rollback a.session))) None o n → Steps first (steps.Rollback a.session) s w v (Ok answers.Done) o n
    rolls-back o n done = record {
      answers = record {
        answer = sym (ap (λ (e : Answer × State). e.0) does);
        state = subst (λ (k : State). IsOf first v k) (sym state) rolled-back;
      };
      memory = λ e. absurd (ok_err answers.Done _ e);
      ends = subst (λ (e : Engine). Does (journals_of w.owners) (journals_of e.owners) (as_writes (writes s (steps.Rollback a.session))) None o n) (sym ends) done;
    }
      where
        ok_err : {T E : Type 0} (x : T) (e : E) → ◌≡◌ {A = Result T E} (Ok x) (Err e) → ⊥
        ok_err x e is = cc

    pub rolls-back-shown : b ≡ vacant a.session → Shows (steps.Rollback a.session) s a b (Ok answers.Done)
    rolls-back-shown is_now = record {
      shown = is_now ∙ ap (shown_by a.session) (sym (ended-txn s a.session tx)) ∙ ap (λ (k : State). shown_by a.session (txn_of k a.session)) (sym state);
      memory = λ e. absurd (ok_err answers.Done _ e);
    }
      where
        ok_err : {T E : Type 0} (x : T) (e : E) → ◌≡◌ {A = Result T E} (Ok x) (Err e) → ⊥
        ok_err x e is = cc

-- ITS RECORD IS NOT WRITTEN
pub roll-back-fault : (first : ℕ) (s : State) (session : ℕ) (w v : Engine) (fault : AppendFault) (o n : Outside) → Does (journals_of w.owners) (journals_of v.owners) (as_writes (writes s (steps.Rollback session))) (Some fault) o n
    → Steps first (steps.Rollback session) s w v (as_step (Err fault)) o n
roll-back-fault first s session w v appends.Device o n does = record { answers = tt; memory = λ e. absurd cc; ends = does }
roll-back-fault first s session w v (appends.Full f) o n does = record { answers = tt; memory = λ e. absurd cc; ends = does }

pub roll-back-kept : (s : State) (session : ℕ) (a : Transaction) (fault : AppendFault) → Shows (steps.Rollback session) s a a (as_step (Err fault))
roll-back-kept s session a fault = record { shown = tt; memory = λ e. refl }
