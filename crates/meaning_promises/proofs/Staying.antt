-- Commits are only added.
use Rattle.std.proofs.Common.{◌≡◌, ℕ, zero, suc, ◌+◌, ◌-◌, ◌<◌, ◌≤◌, List, [], ◌∷◌, ◌++◌, Bool, true, false, not, cond, filter, length, Option, Some, None, refl, sym, ◌∙◌, ap, subst, arith}
use Rattle.std.proofs.lemmas.List.{append-nil, append_assoc, length_push}
use Rattle.dl_base.specs.declared.answer.Answer.{Answer}
use Rattle.dl_base.specs.declared.answer.Answer.TheVariants as answers
use Rattle.dl_base.specs.declared.answer.Lost.{Lost}
use Rattle.dl_base.specs.declared.answer.Refusal.{Refusal}
use Rattle.dl_base.specs.declared.answer.Refusal.TheVariants as reasons
use Rattle.dl_base.specs.declared.answer.RestoreRefusal.TheVariants as restores
use Rattle.dl_base.specs.declared.step.Phase.{Phase}
use Rattle.dl_base.specs.declared.step.Phase.TheVariants as phases
use Rattle.dl_base.specs.declared.step.Step.{Step}
use Rattle.dl_base.specs.declared.step.Step.TheVariants as steps
use Rattle.dl_base.specs.declared.step.Target.{Target}
use Rattle.meaning_areas.specs.Commits.{Commit, commit_to}
use Rattle.meaning_areas.specs.Same.{same_tables}
use Rattle.meaning_areas.specs.Stands.{past}
use Rattle.meaning_merge.specs.Restoring.{in_the_way}
use Rattle.meaning_merge.proofs.Histories.{past-last}
use Rattle.meaning_run.specs.Running.{Read, Run, after, comes_to, met, next_step, step_in, step_on, turn, turn_on, turned}
use Rattle.meaning_run.proofs.Turns.{after-after, after-next}
use Rattle.meaning_script.specs.Expansion.{Then, answered, does, given, silent}
use Rattle.meaning_tables.specs.Links.{gives, takes}
use Rattle.meaning_tables.specs.Tables.{Tables}
use Rattle.meaning_system.specs.Claims.{conflict}
use Rattle.meaning_system.specs.Machine.{begin, by_conflict, commit_by, drawing, first_session, lost_to, next_commit, on_session, on_txn, restore, restore_at, restore_found, restore_idle, restore_moved, restore_to, step, target_number, target_tables, unfinished}
use Rattle.meaning_system.specs.State.{State, Txn, ended, has_links, number_of, tables_of, txn_of}
use Rattle.meaning_system.proofs.Kept.{at-archive, at-backup, at-decide, at-file, at-finish, at-prepare, at-restore, at-rollback, at-statement, resolve-same, with-session}

-- some commits, and more behind them
abbrev pub More : List Commit → List Commit → Type 0
More cs later = (more : List Commit) × (later ≡ cs ++ more)

more-self : (cs : List Commit) → More cs cs
more-self cs = ([], sym (append-nil cs))

more-one : (cs : List Commit) (d : Commit) → More cs (cs ++ d ∷ [])
more-one cs d = (d ∷ [], refl)

more-then : (cs ds es : List Commit) → More cs ds → More ds es → More cs es
more-then cs ds es one two = (one.0 ++ two.0, two.1 ∙ ap (λ (xs : List Commit). xs ++ two.0) one.1 ∙ append_assoc cs one.0 two.0)

-- A STEP
module _ (s : State) where
  abbrev Adds : State → Type 0
  Adds later = More s.commits later.commits

  same : Adds s
  same = more-self s.commits

  begin-adds : (session : ℕ) (o : Option (ℕ × Txn)) → Adds (begin s session o).1
  begin-adds session (Some e) = same
  begin-adds session None = same

pub step-adds : (s : State) (x : Step) → More s.commits (step s x).1.commits
unfolding step
step-adds s (steps.Begin session) = begin-adds s session (txn_of s session)
step-adds s (steps.Statement session stmt) = with-session (Adds s) s session (steps.Statement session stmt) (same s) (λ tx t at of. at-statement (Adds s) s (same s) tx t session stmt t.phase (same s))
step-adds s (steps.Prepare session) = with-session (Adds s) s session (steps.Prepare session) (same s) (λ tx t at of. at-prepare (Adds s) s (same s) tx t session t.phase (same s))
step-adds s (steps.Decide session) = with-session (Adds s) s session (steps.Decide session) (same s) (λ tx t at of. at-decide (Adds s) s (same s) tx t session t.phase (same s) (more-one s.commits (commit_by s tx t)))
step-adds s (steps.Finish session) = with-session (Adds s) s session (steps.Finish session) (same s) (λ tx t at of. at-finish (Adds s) s (same s) tx t session t.phase (same s))
step-adds s (steps.Rollback session) = with-session (Adds s) s session (steps.Rollback session) (same s) (λ tx t at of. at-rollback (Adds s) s (same s) tx t session t.phase (same s))
step-adds s (steps.File cmd) = at-file (Adds s) s (same s) cmd (λ files. same s)
step-adds s (steps.Archive n) = at-archive (Adds s) s (same s) n (λ copies. same s)
step-adds s steps.Backup = at-backup (Adds s) s (same s) (λ backups. same s)
step-adds s (steps.Restore target) = at-restore (Adds s) s (same s) target (λ later. more-one s.commits (commit_to s.commits (number_of (drawing s)) (has_links (restore_moved s later)) later))
step-adds s (steps.Tick n) = same s
step-adds s steps.CrashManager = same s
step-adds s steps.CrashDatabase = same s
step-adds s steps.Resolve = subst (λ (cs : List Commit). More s.commits cs) (sym (resolve-same (λ (x : State). x.commits) (λ x tx. refl) (λ x t. refl) s)) (same s)

-- A TURN

abbrev pub state-by : State → Option Step → State
state-by s None = s
state-by s (Some x) = (step s x).1

by-then : (r : Run) (l : Read) (more : List Read) (t : Then) → (turned (met r l.actor) l more t).state ≡ state-by r.state (step_in t)
by-then r l more (does x) = refl
by-then r l more (given k) = refl
by-then r l more (answered a) = refl
by-then r l more silent = refl

by-lines : (r : Run) (lines : List Read) → (turn_on r lines).state ≡ state-by r.state (step_on r lines)
by-lines r [] = refl
by-lines r (l ∷ more) = by-then r l more (comes_to r l)

pub turn-state : (r : Run) → (turn r).state ≡ state-by r.state (next_step r)
unfolding turn
turn-state r = by-lines r r.lines

turn-adds : (r : Run) → More r.state.commits (turn r).state.commits
turn-adds r = subst (λ (s : State). More r.state.commits s.commits) (sym (turn-state r)) (by (next_step r))
  where
    by : (o : Option Step) → More r.state.commits (state-by r.state o).commits
    by None = more-self r.state.commits
    by (Some x) = step-adds r.state x

turns-add : (n : ℕ) (r : Run) → More r.state.commits (after n r).state.commits
turns-add zero r = more-self r.state.commits
turns-add (suc n) r = more-then r.state.commits (turn r).state.commits (after n (turn r)).state.commits (turn-adds r) (turns-add n (turn r))

pub rest : (k n : ℕ) → k ≤ n → k + (n - k) ≡ n
rest k n le = omega (arith, le)

-- COMMITS ARE ONLY ADDED
pub added : (k n : ℕ) (r : Run) → k ≤ n → More (after k r).state.commits (after n r).state.commits
added k n r le = subst (λ (q : Run). More (after k r).state.commits q.state.commits) (after-after k (n - k) r ∙ ap (λ (j : ℕ). after j r) (rest k n le)) (turns-add (n - k) (after k r))

none_some : {A : Type 0} (x : A) → None ≡ Some x → ⊥
none_some x e = cc

past-grows : (t : Tables) (cs more : List Commit) (c : ℕ) (x : Tables) → past t cs c ≡ Some x → past t (cs ++ more) c ≡ Some x
past-grows t [] [] zero x e = e
past-grows t [] (d ∷ ds) zero x e = e
past-grows t [] more (suc c) x e = absurd (none_some x e)
past-grows t (d ∷ ds) more zero x e = e
past-grows t (d ∷ ds) more (suc c) x e = past-grows d.tables ds more c x e

-- and the tables after each stay
pub tables-stay : (k n c : ℕ) (r : Run) (tables : Tables) → k ≤ n → past [] (after k r).state.commits c ≡ Some tables → past [] (after n r).state.commits c ≡ Some tables
tables-stay k n c r tables le is =
    let more = added k n r le in
    ap (λ (cs : List Commit). past [] cs c) more.1 ∙ past-grows [] (after k r).state.commits more.0 c tables is

-- A COMMIT THAT IS TOLD: one of this transaction is added, with the number that is told
pub record Told (s : State) (tx c : ℕ) (later : State) : Type 0 where
  pub commit : Commit
  pub added : later.commits ≡ s.commits ++ commit ∷ []
  pub number : c ≡ next_commit s
  pub of : commit.tx ≡ tx

abbrev IsCommitted : Answer → Type 0
IsCommitted (answers.Committed c) = Unit {0}
IsCommitted _ = ⊥

abbrev IsRestored : Answer → Type 0
IsRestored (answers.Restored c lost) = Unit {0}
IsRestored _ = ⊥

abbrev number_in : Answer → ℕ
number_in (answers.Committed c) = c
number_in (answers.Restored c lost) = c
number_in _ = 0

refused-committed : (why : Refusal) (c : ℕ) → answers.Refused why ≡ answers.Committed c → ⊥
refused-committed why c e = subst IsCommitted (sym e) tt

done-committed : (c : ℕ) → answers.Done ≡ answers.Committed c → ⊥
done-committed c e = subst IsCommitted (sym e) tt

refused-restored : (why : Refusal) (c : ℕ) (lost : List Lost) → answers.Refused why ≡ answers.Restored c lost → ⊥
refused-restored why c lost e = subst IsRestored (sym e) tt

-- by a Decide
module _ (s : State) (session c : ℕ) where
  on-decide : (tx : ℕ) (t : Txn) (p : Phase) → (on_txn s (steps.Decide session) tx t p).0 ≡ answers.Committed c → (q : ℕ) × Told s q c (on_txn s (steps.Decide session) tx t p).1
  on-decide tx t phases.Active e = absurd (refused-committed (reasons.WrongPhase phases.Active) c e)
  on-decide tx t phases.Prepared e = by (same_tables t.base t.copy) e
    where
      conflicts : (o : Option Refusal) → (by_conflict s session tx t o).0 ≡ answers.Committed c → (q : ℕ) × Told s q c (by_conflict s session tx t o).1
      conflicts (Some why) e = absurd (refused-committed why c e)
      conflicts None e = (tx, record { commit = commit_by s tx t; added = refl; number = sym (ap number_in e); of = refl })

      by : (b : Bool) → (cond b (answers.Done, ended s session tx) (by_conflict s session tx t (conflict t.base (tables_of s) t.named))).0 ≡ answers.Committed c
          → (q : ℕ) × Told s q c (cond b (answers.Done, ended s session tx) (by_conflict s session tx t (conflict t.base (tables_of s) t.named))).1
      by true e = absurd (done-committed c e)
      by false e = conflicts (conflict t.base (tables_of s) t.named) e
  on-decide tx t phases.Decided e = absurd (refused-committed (reasons.WrongPhase phases.Decided) c e)
  on-decide tx t phases.Finished e = absurd (refused-committed (reasons.WrongPhase phases.Finished) c e)
  on-decide tx t phases.Dropped e = absurd (refused-committed (reasons.WrongPhase phases.Dropped) c e)

  pub decide-told : (step s (steps.Decide session)).0 ≡ answers.Committed c → (q : ℕ) × Told s q c (step s (steps.Decide session)).1
  unfolding step
  decide-told e = by (txn_of s session) e
    where
      by : (o : Option (ℕ × Txn)) → (on_session s (steps.Decide session) o).0 ≡ answers.Committed c → (q : ℕ) × Told s q c (on_session s (steps.Decide session) o).1
      by None e = absurd (refused-committed reasons.NoTransaction c e)
      by (Some x) e = on-decide x.0 x.1 x.1.phase e

-- by a Restore
module _ (s : State) (t : Target) (c : ℕ) (lost : List Lost) where
  abbrev ByRestore : State → Type 0
  ByRestore later = Told s (number_of (drawing s)) c later

  pub restore-told : (step s (steps.Restore t)).0 ≡ answers.Restored c lost → Told s (number_of (drawing s)) c (step s (steps.Restore t)).1
  unfolding step
  restore-told e = by (first_session s) e
    where
      at : (target : Tables) (o : Option (List ℕ)) → (restore_at s target o).0 ≡ answers.Restored c lost → ByRestore (restore_at s target o).1
      at target (Some path) e = absurd (refused-restored (reasons.Restore (restores.InTheWay path)) c lost e)
      at target None e = record {
        commit = commit_to s.commits (number_of (drawing s)) (has_links (restore_moved s (restore_to s target))) (restore_to s target);
        added = refl;
        number = sym (ap number_in e);
        of = refl;
      }

      found : (o : Option Tables) → (restore_found s t o).0 ≡ answers.Restored c lost → ByRestore (restore_found s t o).1
      found None e = absurd (refused-restored (reasons.Restore (restores.NoTarget (target_number t))) c lost e)
      found (Some target) e = at target (in_the_way s.files s.copies (gives (tables_of s) target) (filter (λ l. not (lost_to s target l)) (takes (tables_of s) target))) e

      idle : (o : Option (ℕ × Txn)) → (restore_idle s t o).0 ≡ answers.Restored c lost → ByRestore (restore_idle s t o).1
      idle (Some x) e = absurd (refused-restored (reasons.Unfinished x.0) c lost e)
      idle None e = found (target_tables s t) e

      by : (o : Option ℕ) → (restore s t o).0 ≡ answers.Restored c lost → ByRestore (restore s t o).1
      by (Some session) e = absurd (refused-restored (reasons.SessionBusy session) c lost e)
      by None e = idle (unfinished s) e

-- its tables are the committed ones behind it
told-tables : (s : State) (tx c : ℕ) (later : State) → Told s tx c later → past [] later.commits c ≡ Some (tables_of later)
told-tables s tx c later told =
    let last : c ≡ length later.commits = told.number ∙ sym (ap (λ (cs : List Commit). length cs) told.added ∙ length_push s.commits told.commit) in
    ap (λ (n : ℕ). past [] later.commits n) last ∙ past-last [] later.commits

pub next-le : (k n : ℕ) → k < n → k + 1 ≤ n
next-le k n lt = omega (arith, lt)

-- what stands behind a turn that takes a step
pub step-behind : (k : ℕ) (r : Run) (asked : Step) → next_step (after k r) ≡ Some asked → (step (after k r).state asked).1 ≡ (after (k + 1) r).state
step-behind k r asked next = sym (ap (λ (q : Run). q.state) (after-next k r) ∙ turn-state (after k r) ∙ ap (state-by (after k r).state) next)

-- and stay so
module _ (k n c : ℕ) (r : Run) (lt : k < n) (asked : Step) (next : next_step (after k r) ≡ Some asked) (tx : ℕ) (told : Told (after k r).state tx c (step (after k r).state asked).1) where
  pub told-stays : past [] (after n r).state.commits c ≡ Some (tables_of (after (k + 1) r).state)
  told-stays = tables-stay (k + 1) n c r (tables_of (after (k + 1) r).state) (next-le k n lt)
      (subst (λ (s : State). past [] s.commits c ≡ Some (tables_of s)) (step-behind k r asked next) (told-tables (after k r).state tx c (step (after k r).state asked).1 told))
