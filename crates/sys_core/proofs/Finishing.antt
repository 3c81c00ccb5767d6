-- THE FINISH of a decided transaction: what the machine does and writes, that it can be written, and what an engine in the middle of
-- it comes to.
use Rattle.std.proofs.Common.{◌≡◌, ℕ, ◌+◌, ◌≤◌, ◌&&◌, List, [], ◌∷◌, length, Bool, true, false, not, cond, Option, Some, None, is_some, Result, Ok, Err, OnOk, refl, sym, ◌∙◌, ap, subst, arith}
use Rattle.std.specs.FinMap as maps
use Rattle.std.specs.Option.{option_map}
use Rattle.db_store.specs.Store.{CanEnd}
use Rattle.db_txn.specs.Transaction.{Transaction}
use Rattle.dl_areas.specs.Lists.{Journals}
use Rattle.dl_areas.specs.Writing.{Does}
use Rattle.dl_base.specs.Faults.{step_fault}
use Rattle.dl_base.specs.Outside.{Outside}
use Rattle.dl_base.specs.declared.answer.Answer.{Answer}
use Rattle.dl_base.specs.declared.answer.Answer.TheVariants as answers
use Rattle.dl_base.specs.declared.fault.AppendFault.{AppendFault}
use Rattle.dl_base.specs.declared.step.Phase.{Phase}
use Rattle.dl_base.specs.declared.step.Phase.TheVariants as phases
use Rattle.dl_base.specs.declared.step.Step.TheVariants as steps
use Rattle.dl_codec.specs.declared.links.BranchPhase.{BranchPhase}
use Rattle.dl_codec.specs.declared.links.BranchPhase.TheVariants as branch_phases
use Rattle.dl_codec.specs.declared.rows.RowsRecord.TheVariants as rows_records
use Rattle.fm_links.specs.Claims.{PathClaim, without_claim}
use Rattle.fm_links.specs.Searching.{AreClaims}
use Rattle.fm_manager.specs.Managed.{as_writes}
use Rattle.fm_manager.specs.Pieces.{AreOf, CanFinish, HaveRoom, IsDoubtful, Pieces, manager_part}
use Rattle.fm_pieces.specs.Keeping.{left_of}
use Rattle.fs_files.specs.Batch.{puts}
use Rattle.meaning_areas.proofs.Steps.{agrees-of}
use Rattle.meaning_areas.proofs.Tables.{some_same}
use Rattle.meaning_areas.specs.Branches.{Branch, branch}
use Rattle.meaning_areas.specs.Commits.{commit_of, ends_on, has_number, with_ended}
use Rattle.meaning_areas.specs.Finishing.{finish_records}
use Rattle.meaning_areas.specs.Joint.{IsCommitOf, branch_for}
use Rattle.meaning_areas.specs.Lists.{Folds, Written, folds_on, in_rows}
use Rattle.meaning_areas.specs.Stands.{is_open, kept_of}
use Rattle.meaning_files.specs.Files.{Files}
use Rattle.meaning_history.specs.Sound.{AreSound}
use Rattle.meaning_settling.specs.Keyed.{Keyed}
use Rattle.meaning_settling.specs.Settling.{Copies, Kept, Moved, settle_one}
use Rattle.meaning_system.proofs.Leading.{decided-work, txn-there, works-are}
use Rattle.meaning_system.specs.CoreOf.{core_of, work_by}
use Rattle.meaning_system.specs.Machine.{on_session, on_txn, settled_by, step}
use Rattle.meaning_system.specs.State.{State, Txn, ended, has_links, kept_in, moved_of, txn_of}
use Rattle.meaning_system.specs.Writes.{session_writes, txn_writes, when, whole_finish, writes}
use Rattle.sys_core.proofs.Behind.{EachLeads, behind-sound, no-finish}
use Rattle.sys_core.proofs.Between.{between, ended-of, gives-fit, let-go-own}
use Rattle.sys_core.proofs.Ended.{SeatsPut, SeatsTaken}
use Rattle.sys_core.proofs.Knowing.{some-of}
use Rattle.sys_core.proofs.Seating.{PiecesStay, less-there, pieces-stay, seat-of}
use Rattle.sys_core.proofs.Stepped.{steps-done, steps-fault}
use Rattle.sys_core.specs.Between.{IsBetween, IsSettled}
use Rattle.sys_core.specs.Seated.{HasTxn, IsAtStage, let_go}
use Rattle.sys_core.specs.Standing.{IsOf}
use Rattle.sys_core.specs.Steps.{Steps}
use Rattle.sys_core.specs.declared.engine.Engine.{Engine}
use Rattle.sys_owners.proofs.InARow.{taken-first}
use Rattle.sys_owners.proofs.Taking.{finish-last, part-managed, taken-anywhere}
use Rattle.sys_owners.specs.Owned.{Owned, folds_in, journals_of}
use Rattle.sys_seats.specs.Seats.{Seated, gives_at, votes_at, with_stage}
use Rattle.sys_seats.specs.declared.seat.Seat.{Seat}
use Rattle.sys_seats.specs.declared.seat.Stage.{Stage}
use Rattle.sys_seats.specs.declared.seat.Stage.TheVariants as stages

-- WHAT THE CRATES BELOW PROMISE

abbrev pub ClaimsFinish : Type 0
ClaimsFinish =
    (first : ℕ) (f : Folds) (s : State) (claims : Keyed PathClaim) (session tx : ℕ) (t : Txn) → AreSound first f s → AreClaims claims s → txn_of s session ≡ Some (tx, t) → t.phase ≡ phases.Decided
    → AreClaims (without_claim (moved_of t) claims) (step s (steps.Finish session)).1

abbrev pub NoPuts : Type 0
NoPuts = (t : Txn) (k : Kept) (p : Pieces) → AreOf p (moved_of t) k → puts p.changes ≡ 0

abbrev pub FewCopies : Type 0
FewCopies = (m : Moved) (k : Kept) (p : Pieces) → AreOf p m k → length p.copies ≤ length m.gives

false_true : false ≡ true → ⊥
false_true e = cc

none_some : {A : Type 0} (x : A) → None ≡ Some x → ⊥
none_some x e = cc

-- WHAT THE MACHINE DOES
module _ (s : State) (session tx : ℕ) (t : Txn) (is : txn_of s session ≡ Some (tx, t)) (decided : t.phase ≡ phases.Decided) where
  pub finish-step : step s (steps.Finish session) ≡ (answers.Done, ended (settled_by s t) session tx)
  unfolding step
  finish-step = ap (on_session s (steps.Finish session)) is ∙ ap (on_txn s (steps.Finish session) tx t) decided

  pub finish-writes : writes s (steps.Finish session) ≡ whole_finish tx (moved_of t) (kept_in s)
  unfolding writes
  finish-writes =
      ap (session_writes s (steps.Finish session) (step s (steps.Finish session)).0) is
      ∙ ap (λ (p : Phase). txn_writes s (steps.Finish session) tx t p (step s (steps.Finish session)).0) decided

pub finish-state : (s : State) (session tx : ℕ) (t : Txn) → txn_of s session ≡ Some (tx, t) → t.phase ≡ phases.Decided → (step s (steps.Finish session)).1 ≡ ended (settled_by s t) session tx
finish-state s session tx t is decided = ap (λ (e : Answer × State). e.1) (finish-step s session tx t is decided)

-- an engine is in the middle of it once the pieces are taken out of its seat
pub finishing : SeatsPut → (first : ℕ) (w : Engine) (s : State) (v : Transaction) (tx : ℕ) → IsOf first w s → HasTxn s v → v.tx ≡ Some tx → (pieces : Option Pieces) → option_map (λ (x : Seat). x.stage) (maps.get w.seats tx) ≡ Some (stages.Decided pieces)
    → (seats : Seated) → seats ≡ with_stage w.seats tx (stages.Decided None) (maps.get w.seats tx) → (t : Txn) × IsBetween first (record w { seats = seats }) s v.session tx t phases.Decided pieces
finishing put first w s v tx of shown own pieces stage seats changed =
    let know = some-of s v tx shown own in
    let x = seat-of s w.seats tx know.0 of.seats know.1.there in
    let is : x.0.stage ≡ stages.Decided pieces = some_same x.0.stage (stages.Decided pieces) (ap (option_map (λ (y : Seat). y.stage)) (sym x.1) ∙ stage) in
    let at : IsAtStage s tx know.0 (stages.Decided pieces) = subst (λ (y : Stage). IsAtStage s tx know.0 y) is x.2.stage in
    (know.0, between put first w s of v.session tx know.0 know.1.of x.0 x.1 x.2 phases.Decided at.0 pieces at.1 (ap votes_at is) (ap (λ (y : Stage). gives_at y (length x.0.claim.gives)) is) seats changed)

-- IT CAN BE WRITTEN: what is left of its pieces is what it moves, its branch is in doubt, and the lists take its records
pub record Finishable (w : Owned) (q : Pieces) (s : State) (tx : ℕ) (t : Txn) : Type 0 where
  pub can : CanFinish w.manager q
  pub room : HaveRoom q w.manager
  pub end : CanEnd w.store.rows q.tx
  pub doubtful : IsDoubtful w.manager q.tx (moved_of t) branch_phases.Prepared
  pub records : whole_finish tx (moved_of t) (kept_in s) ≡ finish_records q.tx branch_phases.Prepared (moved_of t) (kept_of (folds_in w))
  pub few : length q.copies ≤ length (moved_of t).gives

module _ (law : EachLeads) (first : ℕ) (w : Engine) (s : State) (session tx : ℕ) (t : Txn) where
  abbrev f : Folds
  f = folds_in w.owners

  abbrev m : Moved
  m = moved_of t

  module _ (no_puts : NoPuts) (few_copies : FewCopies) (taken : SeatsTaken) (p : Pieces) (b : IsBetween first w s session tx t phases.Decided (Some p)) where
    has : has_links m ≡ true
    has = b.has.0

    own : p.tx ≡ tx
    own = b.has.1

    same-files : f.files ≡ s.files
    same-files = b.sound.follows.joint.files

    same-copies : f.copies ≡ s.copies
    same-copies = b.sound.follows.joint.copies

    at : maps.get s.txs tx ≡ Some t
    at = (txn-there s (maps.get s.sessions session) (tx, t) b.is).0

    agrees : IsCommitOf (work_by phases.Decided m) (commit_of tx f.rows.commits) × (p : BranchPhase) × (maps.get f.links.table tx ≡ branch_for (work_by phases.Decided m) p) × (is_open p ≡ true)
    agrees = agrees-of f (core_of s) b.sound.follows.joint tx (work_by phases.Decided m) (works-are f s b.sound.follows tx t at (work_by phases.Decided m) (decided-work f s b.sound.follows tx t at b.in_phase))

    -- its branch is in doubt, and has no mark
    prepared : maps.get f.links.table tx ≡ Some (branch m branch_phases.Prepared)
    prepared = by agrees.1 agrees.2 agrees.3
      where
        by : (p : BranchPhase) → maps.get f.links.table tx ≡ branch_for (work_by phases.Decided m) p → is_open p ≡ true → maps.get f.links.table tx ≡ Some (branch m branch_phases.Prepared)
        by branch_phases.Prepared there open_at = there ∙ ap (λ c. cond c (Some (branch m branch_phases.Prepared)) None) has
        by branch_phases.Committed there open_at = absurd (false_true (sym (b.sound.follows.uncut tx (branch m branch_phases.Committed) (there ∙ ap (λ c. cond c (Some (branch m branch_phases.Committed)) None) has))))
        by branch_phases.Done there open_at = absurd (false_true open_at)
        by branch_phases.Aborted there open_at = absurd (false_true open_at)

    -- its commit has a branch that has not ended
    once : has_number tx f.rows.ended ≡ false
    once = by (has_number tx f.rows.ended) refl
      where
        by : (c : Bool) → has_number tx f.rows.ended ≡ c → has_number tx f.rows.ended ≡ false
        by true e =
            let done = b.sound.follows.joint.ended tx e in
            absurd (false_true (ap (λ (y : Branch). is_open y.phase) (some_same (branch done.0 branch_phases.Done) (branch m branch_phases.Prepared) (sym done.1 ∙ prepared))))
        by false e = e

    ends : CanEnd f.rows tx
    ends =
        ap (ends_on f.rows tx) agrees.0.at
        ∙ ap (λ c. cond (c && not (has_number tx f.rows.ended)) (Some (with_ended f.rows tx)) None) (agrees.0.branch ∙ has)
        ∙ ap (λ c. cond (not c) (Some (with_ended f.rows tx)) None) once

    -- the files and copies are the state's
    whole-records : whole_finish tx m (kept_in s) ≡ finish_records tx branch_phases.Prepared m (kept_of f)
    whole-records =
        ap (λ c. when c (finish_records tx branch_phases.Prepared m (kept_in s))) has
        ∙ (λ i. finish_records tx branch_phases.Prepared m (record { files = sym same-files i; copies = sym same-copies i; held = f.links.held }))

    abbrev q : Pieces
    q = left_of w.owners.manager.archive.copies p

    abbrev OfBoth : Files → Copies → Type 0
    OfBoth files copies = AreOf (left_of copies p) m (record { files = files; copies = copies; held = f.links.held })

    of-here : AreOf q m (kept_of f)
    of-here =
        let of : OfBoth s.files s.copies = record { copies = b.has.2.copies; changes = b.has.2.changes } in
        subst (λ (files : Files). OfBoth files f.copies) (sym same-files) (subst (λ (copies : Copies). OfBoth s.files copies) (sym same-copies) of)

    own-records : whole_finish tx m (kept_in s) ≡ finish_records p.tx branch_phases.Prepared m (kept_of f)
    own-records = whole-records ∙ ap (λ (n : ℕ). finish_records n branch_phases.Prepared m (kept_of f)) (sym own)

    part-taken : is_some (folds_on (Some f) (manager_part p.tx branch_phases.Prepared m (kept_of f))) ≡ true
    part-taken =
        let leads = law first f s (steps.Finish session) b.sound b.few (λ t e. absurd (no-finish session t e)) in
        taken-first f (manager_part p.tx branch_phases.Prepared m (kept_of f)) (in_rows (rows_records.Ended p.tx) ∷ [])
        (ap (λ (ws : List Written). is_some (folds_on (Some f) ws)) (sym (finish-writes s session tx t b.is b.in_phase ∙ own-records ∙ finish-last p.tx branch_phases.Prepared m (kept_of f))) ∙ ap is_some leads.1)

    doubt : IsDoubtful w.owners.manager p.tx m branch_phases.Prepared
    doubt = record { is = ap (maps.get f.links.table) own ∙ prepared; open_phase = refl }

    finishable : Finishable w.owners q s tx t
    finishable = record {
      can = (m, branch_phases.Prepared, doubt, of-here, taken-anywhere w.owners.manager w.owners.store.rows w.owners.backups.backups (manager_part q.tx branch_phases.Prepared m (kept_of f)) (part-managed q q.tx branch_phases.Prepared m (kept_of f) of-here) part-taken);
      room = record {
        copies = within (length q.copies) (length m.gives) w.owners.manager.archive.spare (few_copies m (kept_of f) q of-here) (gives-fit taken first w s session tx t phases.Decided (Some p) b);
        files = no-more (puts q.changes) w.owners.manager.files.spare (no_puts t (kept_of f) q of-here);
      };
      end = subst (λ (n : ℕ). CanEnd f.rows n) (sym own) ends;
      doubtful = doubt;
      records = own-records;
      few = few_copies m (kept_of f) q of-here;
    }
      where
        within : (a c d : ℕ) → a ≤ c → c ≤ d → a ≤ d
        within a c d le more = omega (arith, le, more)

        no-more : (a c : ℕ) → a ≡ 0 → a ≤ c
        no-more a c none = omega (arith, none)

    pub left-finishable : (left : Pieces) → left ≡ q → Finishable w.owners left s tx t
    left-finishable left is = subst (λ (y : Pieces). Finishable w.owners y s tx t) (sym is) finishable

  -- WHAT IT LEAVES

  -- where it has no pieces nothing is written
  pub no-records : IsBetween first w s session tx t phases.Decided None → whole_finish tx m (kept_in s) ≡ []
  no-records b = ap (λ c. when c (finish_records tx branch_phases.Prepared m (kept_in s))) b.has

  pub nothing-settled : IsBetween first w s session tx t phases.Decided None → IsSettled w.owners w.owners s tx t
  nothing-settled b = record {
    leads = ap (folds_on (Some f)) (no-records b);
    drawn = refl;
    commits = same w.owners.store.spare;
    copies = more w.owners.manager.archive.spare (length m.gives);
  }
    where
      same : (a : ℕ) → a ≤ a
      same a = omega arith

      more : (a n : ℕ) → a ≤ a + n
      more a n = omega arith

  module _ (pieces : Option Pieces) (b : IsBetween first w s session tx t phases.Decided pieces) where
    records-are : writes s (steps.Finish session) ≡ whole_finish tx m (kept_in s)
    records-are = finish-writes s session tx t b.is b.in_phase

    state-is : (step s (steps.Finish session)).1 ≡ ended (settled_by s t) session tx
    state-is = finish-state s session tx t b.is b.in_phase

    -- it is written, and the transaction ends
    pub finish-done : ClaimsFinish → SeatsTaken → PiecesStay → (k v : Engine) → k ≡ record w { owners = k.owners } → v ≡ record k { claims = v.claims; seats = maps.remove k.seats tx }
        → v.claims.claims ≡ let_go k.owners.manager.links.links.opening (maps.get k.seats tx) k.claims.claims → IsSettled w.owners k.owners s tx t → (o n : Outside) → Does (journals_of w.owners) (journals_of k.owners) (as_writes (whole_finish tx m (kept_in s))) None o n
        → Steps first (steps.Finish session) s w v (Ok answers.Done) o n
    finish-done claims taken stay k v owners end goes settled o n does =
        let sound : AreSound first (folds_in k.owners) (ended (settled_by s t) session tx) =
        behind-sound law first f s (steps.Finish session) b.sound b.few (no-finish session) (folds_in k.owners) (ended (settled_by s t) session tx) (ap (folds_on (Some f)) records-are ∙ settled.leads) state-is in
        let gone : v.claims.claims ≡ without_claim (moved_of t) w.claims.claims =
        goes ∙ ap (λ (e : Engine). let_go k.owners.manager.links.links.opening (maps.get e.seats tx) e.claims.claims) owners
        ∙ let-go-own taken first w s session tx t phases.Decided pieces b k.owners.manager.links.links.opening in
        let are : AreClaims v.claims.claims (ended (settled_by s t) session tx) =
        subst (λ (cs : Keyed PathClaim). AreClaims cs (ended (settled_by s t) session tx)) (sym gone)
        (subst (λ (y : State). AreClaims (without_claim (moved_of t) w.claims.claims) y) state-is (claims first f s w.claims.claims session tx t b.sound b.claims b.is b.in_phase)) in
        steps-done first (steps.Finish session) s w v o n (as_writes (whole_finish tx m (kept_in s))) (ap as_writes records-are) answers.Done (ended (settled_by s t) session tx) (finish-step s session tx t b.is b.in_phase)
        (ended-of taken first w s session tx t phases.Decided pieces b (settle_one m (kept_in s)).files (settle_one m (kept_in s)).copies k v owners end
        (pieces-stay stay first f s (steps.Finish session) tx (ended (settled_by s t) session tx) b.sound state-is (less-there s.txs tx)) sound are settled.drawn settled.commits settled.copies)
        (subst (λ (js : Journals). Does (journals_of w.owners) js (as_writes (whole_finish tx m (kept_in s))) None o n) (sym (ap (λ (e : Engine). journals_of e.owners) end)) does)

    -- it is not
    pub finish-fault : (v : Engine) (fault : AppendFault) (o n : Outside) → Does (journals_of w.owners) (journals_of v.owners) (as_writes (whole_finish tx m (kept_in s))) (Some fault) o n → Steps first (steps.Finish session) s w v (Err (step_fault fault)) o n
    finish-fault v fault o n = steps-fault first (steps.Finish session) s w v o n (as_writes (whole_finish tx m (kept_in s))) (ap as_writes records-are) fault

-- what the Finish of the owners leaves
pub finish-settles : EachLeads → (w : Engine) (v : Owned) (pieces : Option Pieces) (p : Pieces) → pieces ≡ Some p → NoPuts → FewCopies → SeatsTaken → (left : Pieces) → left ≡ left_of w.owners.manager.archive.copies p → (r : Result Unit AppendFault)
    → OnOk r ((moved : Moved) (phase : BranchPhase) → IsDoubtful w.owners.manager left.tx moved phase → folds_on (Some (folds_in w.owners)) (finish_records left.tx phase moved (kept_of (folds_in w.owners))) ≡ Some (folds_in v))
    → OnOk r (v.store.drawn ≡ w.owners.store.drawn) → OnOk r (w.owners.store.spare ≤ v.store.spare) → OnOk r (w.owners.manager.archive.spare ≤ v.manager.archive.spare + length left.copies)
    → OnOk r ((first : ℕ) (s : State) (session tx : ℕ) (t : Txn) → IsBetween first w s session tx t phases.Decided pieces → IsSettled w.owners v s tx t)
finish-settles law w v pieces p is no_puts few_copies taken left of (Err fault) folds drawn commits copies = tt
finish-settles law w v pieces p is no_puts few_copies taken left of (Ok done) folds drawn commits copies = λ first s session tx t was.
    let a = left-finishable law first w s session tx t no_puts few_copies taken p (subst (λ (o : Option Pieces). IsBetween first w s session tx t phases.Decided o) is was) left of in
    record {
      leads = ap (folds_on (Some (folds_in w.owners))) a.records ∙ folds (moved_of t) branch_phases.Prepared a.doubtful;
      drawn = drawn;
      commits = commits;
      copies = within w.owners.manager.archive.spare v.manager.archive.spare (length left.copies) (length (moved_of t).gives) copies a.few;
    }
  where
    within : (r q n m : ℕ) → r ≤ q + n → n ≤ m → r ≤ q + m
    within r q n m le few = omega (arith, le, few)
