-- THE DECISION on a prepared transaction: what the machine does and writes, and what an engine in the middle of it comes to.
use Rattle.std.proofs.Common.{◌≡◌, ℕ, ◌+◌, ◌/◌, ◌^◌, ◌≤◌, ◌==◌, ◌&&◌, List, [], ◌∷◌, length, map, Bool, true, false, cond, Option, Some, None, is_none, is_some, Result, Ok, Err, OnOk, refl, sym, ◌∙◌, ap, subst, arith}
use Rattle.std.specs.Cmp.Lexicographic.{pointwise}
use Rattle.std.specs.FinMap as maps
use Rattle.std.specs.List.{IsDistinct}
use Rattle.std.specs.Option.{option_map}
use Rattle.db_changes.specs.Made.{Making}
use Rattle.db_store.specs.Store.{Database, IsTaken, applied_with, commit_write, committed_with}
use Rattle.db_txn.specs.Transaction.{Transaction, vacant}
use Rattle.dl_areas.specs.Lists.{AreReady, Journals, write_of}
use Rattle.dl_areas.specs.Writing.{Does, DoesAlone}
use Rattle.db_store.specs.Store as rows_area
use Rattle.dl_base.specs.Faults.{step_fault}
use Rattle.dl_base.specs.Outside.{Outside}
use Rattle.dl_base.specs.declared.answer.Answer.{Answer}
use Rattle.dl_base.specs.declared.answer.Answer.TheVariants as answers
use Rattle.dl_base.specs.declared.answer.Refusal.{Refusal}
use Rattle.dl_base.specs.declared.area.Area.TheVariants as areas
use Rattle.dl_base.specs.declared.fault.AppendFault.{AppendFault}
use Rattle.dl_base.specs.declared.fault.StepFault.{StepFault}
use Rattle.dl_base.specs.declared.fault.StepFault.TheVariants as faults
use Rattle.dl_base.specs.declared.step.Phase.{Phase}
use Rattle.dl_base.specs.declared.step.Phase.TheVariants as phases
use Rattle.dl_base.specs.declared.step.Step.{Step}
use Rattle.dl_base.specs.declared.step.Step.TheVariants as steps
use Rattle.dl_codec.specs.Rows.{rows_record}
use Rattle.dl_codec.specs.declared.links.LinksRecord.TheVariants as links_records
use Rattle.dl_codec.specs.declared.rows.RowsRecord.{RowsRecord}
use Rattle.dl_codec.specs.declared.rows.RowsRecord.TheVariants as rows_records
use Rattle.fm_links.specs.Claims.{PathClaim, without_claim}
use Rattle.fm_links.specs.Searching.{AreClaims}
use Rattle.fm_links.specs.Stepping.{unless}
use Rattle.fm_manager.specs.Managed.{IsTakenBy, as_writes}
use Rattle.fm_manager.specs.Pieces.{Pieces}
use Rattle.fm_pieces.specs.Keeping.{HasPieces}
use Rattle.meaning_areas.proofs.Tables.{some_same}
use Rattle.meaning_areas.specs.Commits.{Commit, Commits, commit_of, commit_to, fitting, rows_step, tables_after, with_commit, with_table_changes}
use Rattle.meaning_areas.specs.Lists.{Folds, Written, folds_on, in_links, in_rows, with_rows}
use Rattle.meaning_areas.specs.Same.{same_tables}
use Rattle.meaning_history.specs.Sound.{AreSound}
use Rattle.meaning_merge.proofs.Histories.{past-last}
use Rattle.meaning_merge.specs.Merging.{commit_changes, merge}
use Rattle.meaning_settling.specs.Keyed.{Keyed}
use Rattle.meaning_system.proofs.Leading.{txn-there}
use Rattle.meaning_system.specs.Claims.{conflict}
use Rattle.meaning_system.specs.Following.{AreMerged, IsMerged}
use Rattle.meaning_system.specs.Machine.{by_conflict, committed, decide, merged_by, next_commit, on_session, on_txn, step, with_phase}
use Rattle.meaning_system.specs.State.{State, Txn, ended, has_links, is_prepared, moved_of, tables_of, txn_of}
use Rattle.dl_base.specs.Answers.{is_committed}
use Rattle.meaning_system.specs.Writes.{aborted, decide_writes, session_writes, txn_writes, when, writes}
use Rattle.meaning_tables.specs.Tables.{Tables}
use Rattle.sys_core.proofs.Behind.{EachLeads, behind-sound, behind-taken, no-decide}
use Rattle.sys_core.proofs.Between.{between, committed-of, ended-of, let-go-own}
use Rattle.sys_core.proofs.Ended.{SeatsPut, SeatsTaken}
use Rattle.sys_core.proofs.Knowing.{ended-txn, put-txn, some-of}
use Rattle.sys_core.proofs.Seating.{pieces-kept, seat-of}
use Rattle.sys_core.proofs.Stepped.{not-memory, steps-done, steps-fault}
use Rattle.sys_core.specs.Between.{DecidesTo, IsBetween, IsDeciding}
use Rattle.sys_core.specs.Seated.{HasTxn, IsAtStage, let_go, making_of, shown_by}
use Rattle.sys_core.specs.Standing.{IsOf}
use Rattle.sys_core.specs.Steps.{Shows, Steps, as_step, records_of}
use Rattle.sys_core.specs.declared.engine.Engine.{Engine}
use Rattle.sys_owners.proofs.Placing.{store-does, with_store}
use Rattle.sys_owners.proofs.Taking.{AreManaged, taken-anywhere}
use Rattle.sys_owners.specs.Owned.{folds_in, journals_of}
use Rattle.sys_seats.specs.Seats.{Seated, gives_at, votes_at, with_stage}
use Rattle.sys_seats.specs.declared.seat.Seat.{Seat}
use Rattle.sys_seats.specs.declared.seat.Stage.{Stage}
use Rattle.sys_seats.specs.declared.seat.Stage.TheVariants as stages
use Rattle.sys_seats.specs.declared.seat.Vote.{Vote}

-- WHAT THE CRATES BELOW PROMISE

abbrev pub ClaimsDecide : Type 0
ClaimsDecide =
    (first : ℕ) (f : Folds) (s : State) (claims : Keyed PathClaim) (session tx : ℕ) (t : Txn) → AreSound first f s → AreClaims claims s → txn_of s session ≡ Some (tx, t) → t.phase ≡ phases.Prepared
    → AreClaims (unless (is_committed (step s (steps.Decide session)).0) (moved_of t) claims) (step s (steps.Decide session)).1

abbrev pub AllMerged : Type 0
AllMerged = (first : ℕ) (f : Folds) (s : State) → AreSound first f s → AreMerged s

abbrev pub HandlesLead : Type 0
HandlesLead =
    (r : Commits) (tx : ℕ) (t : Txn) → IsDistinct (pointwise ◌==◌) (map (λ x. x.0) (tables_after [] r.commits)) → IsDistinct (pointwise ◌==◌) (map (λ x. x.0) t.base)
    → applied_with r (making_of tx t) ≡ merge (tables_after [] r.commits) t.base t.copy (length r.commits + 1)

abbrev committing : State → ℕ → Answer × State
committing later number = (answers.Committed number, later)

-- WHAT THE MACHINE DOES
module _ (s : State) (session tx : ℕ) (t : Txn) (is : txn_of s session ≡ Some (tx, t)) (prepared : t.phase ≡ phases.Prepared) where
  decided-step : step s (steps.Decide session) ≡ decide s session tx t
  unfolding step
  decided-step = ap (on_session s (steps.Decide session)) is ∙ ap (on_txn s (steps.Decide session) tx t) prepared

  pub nothing-step : same_tables t.base t.copy ≡ true → step s (steps.Decide session) ≡ (answers.Done, ended s session tx)
  nothing-step same = decided-step ∙ ap (λ b. cond b (answers.Done, ended s session tx) (by_conflict s session tx t (conflict t.base (tables_of s) t.named))) same

  by-conflict-step : (o : Option Refusal) → DecidesTo s t o → step s (steps.Decide session) ≡ by_conflict s session tx t o
  by-conflict-step o to =
      decided-step ∙ ap (λ b. cond b (answers.Done, ended s session tx) (by_conflict s session tx t (conflict t.base (tables_of s) t.named))) to.0
      ∙ ap (by_conflict s session tx t) to.1

  pub conflict-step : (why : Refusal) → DecidesTo s t (Some why) → step s (steps.Decide session) ≡ (answers.Refused why, ended s session tx)
  conflict-step why to = by-conflict-step (Some why) to

  pub commit-step : DecidesTo s t None → step s (steps.Decide session) ≡ (answers.Committed (next_commit s), committed s tx t)
  commit-step to = by-conflict-step None to

  decided-writes : (e : Answer × State) → step s (steps.Decide session) ≡ e → writes s (steps.Decide session) ≡ decide_writes s tx t e.0
  unfolding writes
  decided-writes e stepped =
      ap (session_writes s (steps.Decide session) (step s (steps.Decide session)).0) is
      ∙ ap (λ (p : Phase). txn_writes s (steps.Decide session) tx t p (step s (steps.Decide session)).0) prepared
      ∙ ap (λ (y : Answer × State). decide_writes s tx t y.0) stepped

  pub nothing-writes : same_tables t.base t.copy ≡ true → writes s (steps.Decide session) ≡ []
  nothing-writes same = decided-writes (answers.Done, ended s session tx) (nothing-step same)

  pub conflict-writes : (why : Refusal) → DecidesTo s t (Some why) → writes s (steps.Decide session) ≡ aborted tx (moved_of t)
  conflict-writes why to = decided-writes (answers.Refused why, ended s session tx) (conflict-step why to)

  pub commit-writes : DecidesTo s t None → writes s (steps.Decide session) ≡ in_rows (rows_records.Commit tx (next_commit s) (has_links (moved_of t)) (commit_changes t.base t.copy)) ∷ []
  commit-writes to = decided-writes (answers.Committed (next_commit s), committed s tx t) (commit-step to)

module _ (s : State) (session tx : ℕ) (t : Txn) (is : txn_of s session ≡ Some (tx, t)) (prepared : t.phase ≡ phases.Prepared) where
  pub nothing-state : same_tables t.base t.copy ≡ true → (step s (steps.Decide session)).1 ≡ ended s session tx
  nothing-state same = ap (λ (e : Answer × State). e.1) (nothing-step s session tx t is prepared same)

  pub conflict-state : (why : Refusal) → DecidesTo s t (Some why) → (step s (steps.Decide session)).1 ≡ ended s session tx
  conflict-state why to = ap (λ (e : Answer × State). e.1) (conflict-step s session tx t is prepared why to)

  pub commit-state : DecidesTo s t None → (step s (steps.Decide session)).1 ≡ committed s tx t
  commit-state to = ap (λ (e : Answer × State). e.1) (commit-step s session tx t is prepared to)

-- WHAT THE SESSION'S OBJECT TELLS of it
module _ (first : ℕ) (w : Engine) (s : State) (v : Transaction) (tx : ℕ) (t : Txn) (vote : Vote) (d : IsDeciding first w s v tx t vote) where
  told : v ≡ shown_by v.session (Some (tx, t))
  told = d.shown ∙ ap (shown_by v.session) d.between.is

  pub changes-told : (c : Bool) → same_tables v.base v.copy ≡ c → same_tables t.base t.copy ≡ c
  changes-told c is = sym (ap (λ (x : Transaction). same_tables x.base x.copy) told) ∙ is

  pub decides-to : (base now : Tables) (o : Option Refusal) → same_tables v.base v.copy ≡ false → base ≡ v.base → now ≡ tables_after [] w.owners.store.rows.commits → o ≡ conflict base now vote.names → DecidesTo s t o
  decides-to base now o changes of_base of_now is =
      let base_is : base ≡ t.base = of_base ∙ ap (λ (x : Transaction). x.base) told in
      let now_is : now ≡ tables_of s = of_now ∙ ap (tables_after []) d.between.sound.follows.joint.commits in
      (changes-told false changes, sym (is ∙ (λ i. conflict (base_is i) (now_is i) (d.names i))))

-- an engine is in the middle of it once the vote is taken out of its seat
pub deciding : SeatsPut → (first : ℕ) (w : Engine) (s : State) (v : Transaction) (tx : ℕ) → IsOf first w s → HasTxn s v → v.tx ≡ Some tx → (vote : Vote) → option_map (λ (x : Seat). x.stage) (maps.get w.seats tx) ≡ Some (stages.Prepared vote)
    → (seats : Seated) → seats ≡ with_stage w.seats tx (stages.Decided None) (maps.get w.seats tx) → (t : Txn) × IsDeciding first (record w { seats = seats }) s v tx t vote
deciding put first w s v tx of shown own vote stage seats changed =
    let know = some-of s v tx shown own in
    let x = seat-of s w.seats tx know.0 of.seats know.1.there in
    let is : x.0.stage ≡ stages.Prepared vote = some_same x.0.stage (stages.Prepared vote) (ap (option_map (λ (y : Seat). y.stage)) (sym x.1) ∙ stage) in
    let at : IsAtStage s tx know.0 (stages.Prepared vote) = subst (λ (y : Stage). IsAtStage s tx know.0 y) is x.2.stage in (
      know.0,
      record {
        between = between put first w s of v.session tx know.0 know.1.of x.0 x.1 x.2 phases.Prepared at.0 vote.pieces at.1.pieces (ap votes_at is) (ap (λ (y : Stage). gives_at y (length x.0.claim.gives)) is) seats changed;
        shown = shown;
        made = at.1.made;
        names = at.1.names;
      },
    )

-- WHAT THE SESSION'S OBJECT SHOWS

-- it has ended
pub shows-ended : (x : Step) (s k : State) (before after : Transaction) (tx : ℕ) (r : Result Answer AppendFault) → (step s x).1 ≡ ended k before.session tx → OnOk r (after ≡ vacant before.session) → Shows x s before after (as_step r)
shows-ended x s k before after tx (Ok answer) stepped empty = record {
  shown = empty ∙ sym (ap (λ (t : State). shown_by before.session (txn_of t before.session)) stepped ∙ ap (shown_by before.session) (ended-txn k before.session tx));
  memory = λ e. absurd (no e);
}
  where
    no : ◌≡◌ {A = Result Answer StepFault} (Ok answer) (Err faults.Memory) → ⊥
    no e = cc
shows-ended x s k before after tx (Err fault) stepped empty = record { shown = tt; memory = λ e. absurd (not-memory fault e) }

-- it is decided
pub shows-decided : (s : State) (v : Transaction) (tx : ℕ) (t : Txn) (r : Result Answer AppendFault) → HasTxn s v → txn_of s v.session ≡ Some (tx, t) → t.phase ≡ phases.Prepared → (step s (steps.Decide v.session)).1 ≡ committed s tx t
    → Shows (steps.Decide v.session) s v v (as_step r)
shows-decided s v tx t (Err fault) has is prepared stepped = record { shown = tt; memory = λ e. refl }
shows-decided s v tx t (Ok answer) has is prepared stepped = record {
  shown =
      has ∙ ap (shown_by v.session) is
      ∙ ap (λ (p : Phase). shown_by v.session (Some (tx, with_phase t p))) prepared
      ∙ sym (ap (λ (k : State). shown_by v.session (txn_of k v.session)) stepped
      ∙ ap (shown_by v.session) (put-txn s (committed s tx t) v.session tx (with_phase t phases.Decided) refl refl (txn-there s (maps.get s.sessions v.session) (tx, t) is).1));
  memory = λ e. refl;
}

-- AN ENGINE IN THE MIDDLE OF IT
module _ (law : EachLeads) (first : ℕ) (w : Engine) (s : State) (session tx : ℕ) (t : Txn) (pieces : Option Pieces) (b : IsBetween first w s session tx t phases.Prepared pieces) where
  abbrev f : Folds
  f = folds_in w.owners

  at : maps.get s.txs tx ≡ Some t
  at = (txn-there s (maps.get s.sessions session) (tx, t) b.is).0

  taken-records : is_some (folds_on (Some f) (writes s (steps.Decide session))) ≡ true
  taken-records = behind-taken law first f s (steps.Decide session) b.sound b.few (no-decide session)

  sound-later : (g : Folds) (later : State) → folds_on (Some f) (writes s (steps.Decide session)) ≡ Some g → (step s (steps.Decide session)).1 ≡ later → AreSound first g later
  sound-later = behind-sound law first f s (steps.Decide session) b.sound b.few (no-decide session)

  claims-later : ClaimsDecide → (answer : Answer) (later : State) → step s (steps.Decide session) ≡ (answer, later) → AreClaims (unless (is_committed answer) (moved_of t) w.claims.claims) later
  claims-later claims answer later stepped =
      subst (λ (e : Answer × State). AreClaims (unless (is_committed e.0) (moved_of t) w.claims.claims) e.1) stepped
      (claims first f s w.claims.claims session tx t b.sound b.claims b.is b.in_phase)

  -- WITH ITS END
  module _ (claims : ClaimsDecide) (taken : SeatsTaken) (k v : Engine) (owners : k ≡ record w { owners = k.owners }) (end : v ≡ record k { claims = v.claims; seats = maps.remove k.seats tx })
      (goes : v.claims.claims ≡ let_go k.owners.manager.links.links.opening (maps.get k.seats tx) k.claims.claims) (drawn : k.owners.store.drawn ≡ w.owners.store.drawn) (spare : w.owners.store.spare ≤ k.owners.store.spare)
      (room : w.owners.manager.archive.spare ≤ k.owners.manager.archive.spare) (o n : Outside) where
    gone-claims : v.claims.claims ≡ without_claim (moved_of t) w.claims.claims
    gone-claims =
        goes ∙ ap (λ (e : Engine). let_go k.owners.manager.links.links.opening (maps.get e.seats tx) e.claims.claims) owners
        ∙ let-go-own taken first w s session tx t phases.Prepared pieces b k.owners.manager.links.links.opening

    same-journals : journals_of v.owners ≡ journals_of k.owners
    same-journals = ap (λ (e : Engine). journals_of e.owners) end

    ends-so : (answer : Answer) → is_committed answer ≡ false → step s (steps.Decide session) ≡ (answer, ended s session tx) → (ws : List Written) → writes s (steps.Decide session) ≡ ws → folds_on (Some f) ws ≡ Some (folds_in k.owners)
        → Does (journals_of w.owners) (journals_of k.owners) (as_writes ws) None o n → Steps first (steps.Decide session) s w v (Ok answer) o n
    ends-so answer uncommitted stepped ws are leads does =
        let state : (step s (steps.Decide session)).1 ≡ ended s session tx = ap (λ (e : Answer × State). e.1) stepped in
        let sound : AreSound first (folds_in k.owners) (ended s session tx) = sound-later (folds_in k.owners) (ended s session tx) (ap (folds_on (Some f)) are ∙ leads) state in
        let own : AreClaims v.claims.claims (ended s session tx) =
        subst (λ (cs : Keyed PathClaim). AreClaims cs (ended s session tx)) (sym gone-claims)
        (subst (λ (c : Bool). AreClaims (unless c (moved_of t) w.claims.claims) (ended s session tx)) uncommitted (claims-later claims answer (ended s session tx) stepped)) in
        steps-done first (steps.Decide session) s w v o n (as_writes ws) (ap as_writes are) answer (ended s session tx) stepped
        (ended-of taken first w s session tx t phases.Prepared pieces b s.files s.copies k v owners end (pieces-kept tx s (ended s session tx) refl refl) sound own drawn spare
        (more w.owners.manager.archive.spare k.owners.manager.archive.spare (length (moved_of t).gives) room))
        (subst (λ (js : Journals). Does (journals_of w.owners) js (as_writes ws) None o n) (sym same-journals) does)
      where
        more : (a b n : ℕ) → a ≤ b → a ≤ b + n
        more a b n le = omega (arith, le)

    pub nothing-ends : same_tables t.base t.copy ≡ true → folds_in w.owners ≡ folds_in k.owners → Does (journals_of w.owners) (journals_of k.owners) [] None o n → Steps first (steps.Decide session) s w v (Ok answers.Done) o n
    nothing-ends same folds does =
        ends-so answers.Done refl (nothing-step s session tx t b.is b.in_phase same) [] (nothing-writes s session tx t b.is b.in_phase same) (ap (λ (g : Folds). Some g) folds) does

    pub conflict-ends : (why : Refusal) → DecidesTo s t (Some why) → (branch : Bool) → branch ≡ has_links (moved_of t) → folds_on (Some (folds_in w.owners)) (when branch (in_links (links_records.Aborted tx) ∷ [])) ≡ Some (folds_in k.owners)
        → Does (journals_of w.owners) (journals_of k.owners) (as_writes (when branch (in_links (links_records.Aborted tx) ∷ []))) None o n → Steps first (steps.Decide session) s w v (Ok (answers.Refused why)) o n
    conflict-ends why to branch is leads does =
        ends-so (answers.Refused why) refl (conflict-step s session tx t b.is b.in_phase why to) (when branch (in_links (links_records.Aborted tx) ∷ []))
        (conflict-writes s session tx t b.is b.in_phase why to ∙ ap (λ c. when c (in_links (links_records.Aborted tx) ∷ [])) (sym is)) leads does

  -- WITH A CONFLICT

  managed-when : (branch : Bool) → AreManaged (when branch (in_links (links_records.Aborted tx) ∷ []))
  managed-when true = (tt, tt)
  managed-when false = tt

  pub conflict-taken : (why : Refusal) → DecidesTo s t (Some why) → (branch : Bool) → branch ≡ has_links (moved_of t) → IsTakenBy w.owners.manager (when branch (in_links (links_records.Aborted tx) ∷ []))
  conflict-taken why to branch is =
      taken-anywhere w.owners.manager w.owners.store.rows w.owners.backups.backups (when branch (in_links (links_records.Aborted tx) ∷ [])) (managed-when branch)
      (ap (λ (ws : List Written). is_some (folds_on (Some f) ws)) (sym (conflict-writes s session tx t b.is b.in_phase why to ∙ ap (λ c. when c (in_links (links_records.Aborted tx) ∷ [])) (sym is))) ∙ taken-records)

  pub conflict-fault : (why : Refusal) → DecidesTo s t (Some why) → (branch : Bool) → branch ≡ has_links (moved_of t) → (v : Engine) (fault : AppendFault) (o n : Outside)
      → Does (journals_of w.owners) (journals_of v.owners) (as_writes (when branch (in_links (links_records.Aborted tx) ∷ []))) (Some fault) o n → Steps first (steps.Decide session) s w v (Err (step_fault fault)) o n
  conflict-fault why to branch is v fault o n =
      steps-fault first (steps.Decide session) s w v o n (as_writes (when branch (in_links (links_records.Aborted tx) ∷ [])))
      (ap as_writes (conflict-writes s session tx t b.is b.in_phase why to ∙ ap (λ c. when c (in_links (links_records.Aborted tx) ∷ [])) (sym is))) fault

  -- WITHOUT A CONFLICT
  module _ (lead : HandlesLead) (all_merged : AllMerged) (to : DecidesTo s t None) where
    abbrev r : Commits
    r = w.owners.store.rows

    abbrev making : Making
    making = making_of tx t

    commits : r.commits ≡ s.commits
    commits = b.sound.follows.joint.commits

    merged : IsMerged s tx t
    merged = all_merged first f s b.sound tx t at (ap is_prepared b.in_phase) to.1

    abbrev commit_record : RowsRecord
    commit_record = rows_records.Commit tx (next_commit s) (has_links (moved_of t)) (commit_changes t.base t.copy)

    -- the fold takes the record, which leads to the merged tables
    rows-taken : is_some (rows_step r commit_record) ≡ true
    rows-taken = some-rows (rows_step r commit_record) (ap (λ (ws : List Written). is_some (folds_on (Some f) ws)) (sym (commit-writes s session tx t b.is b.in_phase to)) ∙ taken-records)
      where
        some-rows : (o : Option Commits) → is_some (with_rows f o) ≡ true → is_some o ≡ true
        some-rows None e = e
        some-rows (Some x) e = refl

    fits-here : fitting r tx (has_links (moved_of t)) (with_table_changes (next_commit s) (tables_after [] r.commits) (commit_changes t.base t.copy)) ≡ Some (with_commit r (commit_to r.commits tx (has_links (moved_of t)) (merged_by s t)))
    fits-here =
        ap (fitting r tx (has_links (moved_of t))) (ap (λ (cs : List Commit). with_table_changes (next_commit s) (tables_after [] cs) (commit_changes t.base t.copy)) commits ∙ merged.changes)
        ∙ ap (λ c. cond c (Some (with_commit r (commit_to r.commits tx (has_links (moved_of t)) (merged_by s t)))) None) merged.fit

    rows-lead : rows_step r commit_record ≡ Some (with_commit r (commit_to r.commits tx (has_links (moved_of t)) (merged_by s t)))
    rows-lead = passed ((next_commit s == length r.commits + 1) && is_none (commit_of tx r.commits) && (tx / 2 ^ 32 == r.opening)) _ _ fits-here rows-taken
      where
        passed : (c : Bool) (o : Option Commits) (x : Commits) → o ≡ Some x → is_some (cond c o None) ≡ true → cond c o None ≡ Some x
        passed true o x e some = e
        passed false o x e some = absurd (no some)
          where
            no : false ≡ true → ⊥
            no is = cc

    -- and so do the handles
    applied-here : applied_with r making ≡ merged_by s t
    applied-here =
        let history = b.sound.history.history in
        let base = b.sound.history.bases tx t at in
        lead r tx t (subst (λ (cs : List Commit). IsDistinct (pointwise ◌==◌) (map (λ x. x.0) (tables_after [] cs))) (sym commits) (history.ordered (length s.commits) (tables_of s) (past-last [] s.commits)).names) (history.ordered base.0 t.base base.1).names
        ∙ ap (λ (cs : List Commit). merge (tables_after [] cs) t.base t.copy (length cs + 1)) commits

    rows-become : rows_step r commit_record ≡ Some (committed_with r making)
    rows-become = rows-lead ∙ ap (λ (tables : Tables). Some (with_commit r (commit_to r.commits tx (has_links (moved_of t)) tables))) (sym applied-here)

    number-here : next_commit s ≡ length r.commits + 1
    number-here = ap (λ (cs : List Commit). length cs + 1) (sym commits)

    making-taken : IsTaken r making
    making-taken = ap (λ (n : ℕ). rows_step r (rows_records.Commit tx n (has_links (moved_of t)) (commit_changes t.base t.copy))) (sym number-here) ∙ rows-become

    module _ (made : Making) (own : made ≡ making) where
      pub commit-taken : IsTaken r made
      commit-taken = subst (λ (m : Making). IsTaken r m) (sym own) making-taken

      commit-records : records_of s (steps.Decide session) ≡ commit_write r made ∷ []
      commit-records =
          ap as_writes (commit-writes s session tx t b.is b.in_phase to)
          ∙ ap (λ (n : ℕ). write_of areas.Rows (rows_record.spelling (rows_records.Commit tx n (has_links (moved_of t)) (commit_changes t.base t.copy))) None ∷ []) number-here
          ∙ ap (λ (m : Making). commit_write r m ∷ []) (sym own)

      commit-leads : (d : Database) → d.rows ≡ committed_with r made → folds_on (Some f) (writes s (steps.Decide session)) ≡ Some (folds_in (with_store w.owners d))
      commit-leads d is =
          ap (folds_on (Some f)) (commit-writes s session tx t b.is b.in_phase to)
          ∙ ap (with_rows f) rows-become
          ∙ ap (λ (x : Commits). Some (record f { rows = x })) (sym (is ∙ ap (committed_with r) own))

      -- it is written
      pub commit-done : ClaimsDecide → SeatsPut → (d : Database) (seats : Seated) (number : ℕ) (o n : Outside) → AreReady (journals_of w.owners) o → number ≡ length r.commits + 1 → d.rows ≡ committed_with r made
          → d.drawn ≡ w.owners.store.drawn → w.owners.store.spare ≤ d.spare + 1 → seats ≡ with_stage w.seats tx (stages.Decided pieces) (maps.get w.seats tx) → DoesAlone (rows_area.extent w.owners.store) (rows_area.extent d) (commit_write r made ∷ []) None o n
          → Steps first (steps.Decide session) s w (record w { owners = with_store w.owners d; seats = seats }) (Ok (answers.Committed number)) o n
      commit-done claims put d seats number o n ready value rows drawn spare changed does =
          let stepped = commit-step s session tx t b.is b.in_phase to in
          let state : (step s (steps.Decide session)).1 ≡ committed s tx t = ap (λ (e : Answer × State). e.1) stepped in
          steps-done first (steps.Decide session) s w (record w { owners = with_store w.owners d; seats = seats }) o n (commit_write r made ∷ []) commit-records (answers.Committed number) (committed s tx t)
          (stepped ∙ ap (committing (committed s tx t)) (number-here ∙ sym value))
          (committed-of put first w s session tx t pieces b d seats (sound-later (folds_in (with_store w.owners d)) (committed s tx t) (commit-leads d rows) state)
          (claims-later claims (answers.Committed (next_commit s)) (committed s tx t) stepped) drawn spare changed)
          (store-does w.owners (commit_write r made ∷ []) None o n ready d does)

      -- it is not
      pub commit-fault : (d : Database) (fault : AppendFault) (o n : Outside) → AreReady (journals_of w.owners) o → DoesAlone (rows_area.extent w.owners.store) (rows_area.extent d) (commit_write r made ∷ []) (Some fault) o n
          → Steps first (steps.Decide session) s w (record w { owners = with_store w.owners d }) (Err (step_fault fault)) o n
      commit-fault d fault o n ready does =
          steps-fault first (steps.Decide session) s w (record w { owners = with_store w.owners d }) o n (commit_write r made ∷ []) commit-records fault
          (store-does w.owners (commit_write r made ∷ []) (Some fault) o n ready d does)

-- a transaction has a branch exactly where it has pieces
pub pieces-branch : (s : State) (tx : ℕ) (t : Txn) (p : Option Pieces) → HasPieces s tx t p → is_some p ≡ has_links (moved_of t)
pieces-branch s tx t None has = sym has
pieces-branch s tx t (Some p) has = sym has.0

-- there is room for so many commits
pub room-for : (a rooms spare : ℕ) → a + rooms ≤ spare → rooms ≤ spare
room-for a rooms spare le = omega (arith, le)
