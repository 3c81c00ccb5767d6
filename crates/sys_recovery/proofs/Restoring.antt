-- A RESTORE THAT IS STOPPED: as long as its Commit is not there the lists stand for the state before it, and from then on for the state
-- behind it.
use Rattle.std.proofs.Common.{◌≡◌, ◌≢◌, ⊎_elim, ℕ, ◌+◌, ◌*◌, ◌/◌, ◌^◌, ◌<◌, ◌==◌, List, [], ◌∷◌, ◌++◌, Bool, true, false, not, cond, ◌&&◌, ◌||◌, filter, length, map, Option, Some, None, is_none, is_some, refl, sym, ◌∙◌, ap, subst, arith}
use Rattle.std.proofs.lemmas.Bool.{cases_eq}
use Rattle.std.specs.FinMap as maps
use Rattle.std.specs.FinMap.{find as find_key, get-entries}
use Rattle.std.specs.List.{list_any}
use Rattle.std.specs.Option.{option_and_then}
use Rattle.std.specs.Ordering.{nat_cmp}
use Rattle.dl_base.specs.declared.step.Step.TheVariants as steps
use Rattle.dl_base.specs.declared.step.Target.{Target}
use Rattle.dl_base.specs.declared.value.LinkRow.{LinkRow}
use Rattle.dl_codec.specs.declared.links.BranchPhase.TheVariants as branch_phases
use Rattle.dl_codec.specs.declared.links.LinksRecord.TheVariants as links_records
use Rattle.dl_codec.specs.declared.links.Taken.{Taken}
use Rattle.dl_codec.specs.declared.rows.RowsRecord.TheVariants as rows_records
use Rattle.meaning_areas.specs.Branches.{Branch, branch, may_prepare, moved_by, prepares_on, with_branch}
use Rattle.meaning_areas.specs.Commits.{Commit, Commits, commit_of, commit_to, fitting, rows_step, tables_after, with_commit, with_table_changes}
use Rattle.meaning_areas.specs.Core.{Core, Work, active, core_kept, core_stored, decided_in, decided_work, no_moved, prepared, with_work}
use Rattle.meaning_areas.specs.Finishing.{finish_records}
use Rattle.meaning_areas.specs.Joint.{Joint}
use Rattle.meaning_areas.specs.Lists.{Folds, Written, folds_on, folds_step, in_links, in_rows, with_links, with_rows}
use Rattle.meaning_areas.specs.Moving.{core_decided, with_decision}
use Rattle.meaning_areas.specs.Stands.{AreDrawn, IsStand, IsWhole, Stored, kept_of, stored_with, txs_of}
use Rattle.meaning_areas.proofs.Deciding.{settled-decided}
use Rattle.meaning_areas.proofs.Restored.{claimed_core, claiming, claiming-there, restore-committed, restore-prepared, restoring}
use Rattle.meaning_areas.proofs.Steps.{work-there}
use Rattle.meaning_areas.proofs.Tables.{commit_of-here, get-here, not_none, test-same}
use Rattle.meaning_areas.proofs.Whole.{whole-decided}
use Rattle.meaning_files.specs.Files.{Files}
use Rattle.meaning_history.specs.Sound.{AreSound}
use Rattle.meaning_merge.specs.Restoring.{in_the_way, restore_changes, without_lost}
use Rattle.meaning_opening.proofs.Completing.{FinishStands}
use Rattle.meaning_opening.specs.Fronts.{FrontsStand}
use Rattle.meaning_opening.proofs.Plain.{none_some}
use Rattle.meaning_settling.specs.Apart.{IsReady}
use Rattle.meaning_settling.specs.Settled.{settled}
use Rattle.meaning_settling.specs.Settling.{Copies, Kept, Moved, held_after, on, settle_one}
use Rattle.meaning_tables.specs.Links.{gives, links, takes}
use Rattle.meaning_tables.specs.Tables.{Tables}
use Rattle.meaning_system.specs.CoreOf.{core_of, work_at}
use Rattle.meaning_system.specs.Following.{AreInSessions, AreRestored, Follows, IsRestored}
use Rattle.meaning_system.specs.Machine.{drawing, first_key, first_session, is_unfinished, lost_to, next_commit, restore, restore_at, restore_found, restore_idle, restore_moved, restore_to, restored_state, step, target_tables, unfinished}
use Rattle.meaning_system.specs.State.{State, Txn, has_links, is_active, kept_in, number_of, stored, tables_of}
use Rattle.meaning_system.specs.Writes.{restore_by, restore_writes, taken_by, when, writes}
use Rattle.meaning_system.proofs.Claiming.{none-passes}
use Rattle.meaning_system.proofs.Cores.{stored-core}
use Rattle.meaning_system.proofs.Kept.{number-present}
use Rattle.meaning_system.proofs.Leading.{all_true}
use Rattle.meaning_system.proofs.Resolving.{settled-none}
use Rattle.meaning_system.proofs.Stepping.{next-number}
use Rattle.sys_recovery.specs.Left.{has_commit, left_by}
use Rattle.sys_recovery.proofs.Holding.{Holds, one-holds}

-- WHAT LISTS BECOME OF A PREPARED that is taken
abbrev IsTaken : Folds → List Written → Type 0
IsTaken f xs = (later : Folds) × (folds_on (Some f) xs ≡ Some later)

none-on : (xs : List Written) → folds_on None xs ≡ None
none-on [] = refl
none-on (x ∷ xs) = none-on xs

prepared-taken : (f : Folds) (tx : ℕ) (given : List LinkRow) (taken : List Taken) (more : List Written) → IsTaken f (in_links (links_records.Prepared tx given taken) ∷ more)
    → folds_step f (in_links (links_records.Prepared tx given taken)) ≡ Some (restoring f tx (moved_by given taken))
prepared-taken f tx given taken more on = by (maps.get f.links.table tx) on.1
  where
    none : {X : Type 0} → folds_on None more ≡ Some on.0 → X
    none e = absurd (none_some on.0 (sym (none-on more) ∙ e))

    at : (b : Bool) → folds_on (with_links f (cond b (Some (with_branch f.links tx (branch (moved_by given taken) branch_phases.Prepared))) None)) more ≡ Some on.0 → with_links f (cond b (Some (with_branch f.links tx (branch (moved_by given taken) branch_phases.Prepared))) None) ≡ Some (restoring f tx (moved_by given taken))
    at true e = refl
    at false e = none e

    by : (o : Option Branch) → folds_on (with_links f (prepares_on f.links tx given taken o)) more ≡ Some on.0 → with_links f (prepares_on f.links tx given taken o) ≡ Some (restoring f tx (moved_by given taken))
    by (Some x) e = none e
    by None e = at (may_prepare f.links given taken) e

-- its takes: all with RECOVERY YES are to be filled, or none
abbrev recoveries : List LinkRow → Bool
recoveries ls = list_any (λ (l : LinkRow). l.options.recovery) ls

links-back : (fill : Bool) (ls : List LinkRow) → map (λ t. t.link) (map (taken_by fill) ls) ≡ ls
links-back fill [] = refl
links-back fill (l ∷ ls) = ap (λ (xs : List LinkRow). l ∷ xs) (links-back fill ls)

fills-are : (fill : Bool) (ls : List LinkRow) → fill ≡ recoveries ls → list_any (λ t. t.fill) (map (taken_by fill) ls) ≡ fill
fills-are true ls e = all ls ∙ sym e
  where
    all : (ls : List LinkRow) → list_any (λ t. t.fill) (map (taken_by true) ls) ≡ recoveries ls
    all [] = refl
    all (l ∷ ls) = ap (λ b. l.options.recovery || b) (all ls)
fills-are false ls e = none ls
  where
    none : (ls : List LinkRow) → list_any (λ t. t.fill) (map (taken_by false) ls) ≡ false
    none [] = refl
    none (l ∷ ls) = none ls

-- no transaction is left where a restore is let through
first-none : (es : List (ℕ × ℕ)) → first_key es ≡ None → es ≡ []
first-none [] e = refl
first-none (e ∷ es) none = absurd cc

is-idle : (s : State) → AreInSessions s → first_session s ≡ None → unfinished s ≡ None → (q : ℕ) → maps.get s.txs q ≡ None
is-idle s sessions none all q = by (maps.get s.txs q) refl
  where
    not-false : (b : Bool) → not b ≡ false → b ≡ true
    not-false true e = refl
    not-false false e = absurd cc

    by : (o : Option Txn) → maps.get s.txs q ≡ o → maps.get s.txs q ≡ None
    by None at = at
    by (Some t) at =
        let live : is_active t.phase ≡ true = not-false (is_active t.phase) (none-passes is_unfinished q t (maps.entries s.txs) all (sym (get-entries s.txs q) ∙ at)) in
        let session = sessions q t at live in
        absurd (not_none q (maps.get s.sessions session.0) session.1 (get-entries s.sessions session.0 ∙ ap (find_key nat_cmp session.0) (first-none (maps.entries s.sessions) none)))

heads : (v w : Written) (vs ws : List Written) → v ∷ vs ≡ w ∷ ws → v ≡ w
heads v w vs ws e = cc

tails : (v w : Written) (vs ws : List Written) → v ∷ vs ≡ w ∷ ws → vs ≡ ws
tails v w vs ws e = cc

-- LISTS GO WITH A CORE, AND SO STAND for its stored part, as it is promised
abbrev pub JointStands : Type 0
JointStands = (f : Folds) (c : Core) → Joint f c → IsStand f (core_stored c)

-- A RESTORE that is let through
module _ (joint_stands : JointStands) (goes_on : FinishStands) (f : Folds) (s : State) (follows : Follows f s) (stand : IsStand f (stored s)) (idle : (q : ℕ) → maps.get s.txs q ≡ None) (small : s.drawn + 1 < 2 ^ 32)
    (target later : Tables) (owed : IsRestored s target later) where
  abbrev m : Moved
  m = restore_moved s later

  abbrev d : Commit
  d = commit_to s.commits (number_of (drawing s)) (has_links (restore_moved s later)) later

  abbrev behind : State
  behind = restored_state s later

  abbrev stored_by : List Written → Stored
  stored_by front = stored (cond (has_commit front) behind s)

  number : number_of (drawing s) ≡ number_of s + 1
  number = next-number s.rows_opening s.drawn

  idle-works : (q : ℕ) → (core_of s).works q ≡ None
  idle-works q = ap (work_at s) (idle q)

  no-decided : (q : ℕ) → decided_in (core_of s) q ≡ None
  no-decided q = ap decided_work (idle-works q)

  bound : (core_of s).drawn + 1 < ((core_of s).rows_opening + 1) * 2 ^ 32
  bound = less s.rows_opening s.drawn small
    where
      less : (o d : ℕ) → d + 1 < 2 ^ 32 → o * 2 ^ 32 + d + 1 < (o + 1) * 2 ^ 32
      less o d lt = omega arith

  drawn-here : (ls : List LinkRow) → AreDrawn s.rows_opening ls → AreDrawn f.rows.opening ls
  drawn-here ls drawn = subst (λ (o : ℕ). AreDrawn o ls) (sym follows.joint.rows_opening) drawn

  -- what is stored of both states
  abbrev storing : List Commit → Kept → Stored
  storing cs k = stored_with cs s.backups s.rows_opening s.links_opening k

  stored-before : stored s ≡ storing s.commits (kept_in s)
  stored-before = stored-core s ∙ ap (storing s.commits) (settled-none (decided_in (core_of s)) (txs_of s.commits) (kept_in s) no-decided)

  stored-behind : stored behind ≡ storing (s.commits ++ d ∷ []) (settle_one m (kept_in s))
  stored-behind = stored-core behind ∙ ap (storing (s.commits ++ d ∷ [])) (settled-none (decided_in (core_of behind)) (txs_of (s.commits ++ d ∷ [])) (core_kept (core_of behind)) (λ q. ap (λ (o : Option Txn). decided_work (work_at behind o)) (idle q)))

  -- its Commit is taken, beside whatever stands in Links
  no-commit : commit_of (number_of s + 1) f.rows.commits ≡ None
  no-commit = (follows.joint.numbers (number_of s + 1) (more (number_of s))).1
    where
      more : (x : ℕ) → x < x + 1
      more x = omega arith

  commit-taken : rows_step f.rows (rows_records.Commit (number_of s + 1) (next_commit s) (has_links m) (restore_changes (tables_of s) target)) ≡ Some (with_commit f.rows d)
  commit-taken =
      let present : (number_of s + 1) / 2 ^ 32 ≡ s.rows_opening = ap (λ (x : ℕ). x / 2 ^ 32) (sym number) ∙ number-present s.rows_opening (s.drawn + 1) small in
      let test : ((next_commit s == length f.rows.commits + 1) && is_none (commit_of (number_of s + 1) f.rows.commits) && ((number_of s + 1) / 2 ^ 32 == f.rows.opening)) ≡ true =
      all_true _ _ (all_true _ _ (test-same (next_commit s) (length f.rows.commits + 1) (ap (λ (cs : List Commit). length cs + 1) (sym follows.joint.commits))) (ap is_none no-commit))
      (test-same ((number_of s + 1) / 2 ^ 32) f.rows.opening (present ∙ sym follows.joint.rows_opening)) in
      ap (λ b. cond b (fitting f.rows (number_of s + 1) (has_links m) (with_table_changes (next_commit s) (tables_after [] f.rows.commits) (restore_changes (tables_of s) target))) None) test
      ∙ ap (fitting f.rows (number_of s + 1) (has_links m)) (ap (λ (cs : List Commit). with_table_changes (next_commit s) (tables_after [] cs) (restore_changes (tables_of s) target)) follows.joint.commits ∙ owed.changes)
      ∙ ap (λ b. cond b (Some (with_commit f.rows (commit_to f.rows.commits (number_of s + 1) (has_links m) later))) None) owed.fit
      ∙ (λ i. Some (with_commit f.rows (commit_to (follows.joint.commits i) (sym number i) (has_links m) later)))

  -- ITS RECORDS where it has a branch
  abbrev prepare : Written
  prepare = in_links (links_records.Prepared (number_of s + 1) m.gives (map (taken_by m.fill) m.takes))

  abbrev commit : Written
  commit = in_rows (rows_records.Commit (number_of s + 1) (next_commit s) (has_links m) (restore_changes (tables_of s) target))

  abbrev finish : List Written
  finish = finish_records (number_of s + 1) branch_phases.Prepared m (kept_in s)

  module _ (branched : has_links m ≡ true) (accepted : IsTaken f (prepare ∷ commit ∷ finish)) where
    abbrev waits : Work
    waits = record { stage = prepared; branch = true; moved = m }

    abbrev voted : Folds
    voted = restoring f (number_of s + 1) m

    abbrev done : Folds
    done = with_decision voted d

    abbrev waiting_core : Core
    waiting_core = claiming (core_of s) m

    abbrev decided_core : Core
    decided_core = core_decided (claiming (core_of s) m) d waits

    -- behind Prepared
    waiting : Joint voted waiting_core
    waiting = restore-prepared f (core_of s) follows.joint idle-works bound m (drawn-here m.gives owed.moved_drawn.0) (drawn-here m.takes owed.moved_drawn.1)

    waiting-there : waiting_core.works (number_of (drawing s)) ≡ Some waits
    waiting-there = claiming-there f (core_of s) follows.joint idle-works bound m (drawn-here m.gives owed.moved_drawn.0) (drawn-here m.takes owed.moved_drawn.1) (number_of (drawing s)) number

    none-decided : (q : ℕ) → decided_in waiting_core q ≡ None
    none-decided q = ⊎_elim
        (λ (e : q ≡ number_of s + 1). ap decided_work (ap waiting_core.works (e ∙ sym number) ∙ waiting-there))
        (λ (other : q ≢ number_of s + 1). ap decided_work (work-there (claimed_core (core_of s) m).works (number_of s + 1) (Some waits) q other
        ∙ work-there (with_work (core_of s).works (number_of s + 1) (Some (record { stage = active; branch = false; moved = no_moved }))) (number_of s + 1) (Some (record { stage = active; branch = true; moved = m })) q other
        ∙ work-there (core_of s).works (number_of s + 1) (Some (record { stage = active; branch = false; moved = no_moved })) q other ∙ idle-works q))
        (cases_eq q (number_of s + 1))

    still : settled (decided_in waiting_core) (txs_of s.commits) (kept_in s) ≡ kept_in s
    still = settled-none (decided_in waiting_core) (txs_of s.commits) (kept_in s) none-decided

    voted-stands : IsStand voted (stored s)
    voted-stands = subst (IsStand voted) (ap (storing s.commits) still ∙ sym stored-before) (joint_stands voted waiting_core waiting)

    voted-taken : folds_step f prepare ≡ Some voted
    voted-taken = prepared-taken f (number_of s + 1) m.gives (map (taken_by m.fill) m.takes) (commit ∷ finish) accepted
        ∙ (λ i. Some (restoring f (number_of s + 1) (record { gives = m.gives; takes = links-back m.fill m.takes i; fill = fills-are m.fill m.takes refl i })))

    -- behind its Commit
    settles : settled (decided_in decided_core) (txs_of (s.commits ++ d ∷ [])) (kept_in s) ≡ settle_one m (kept_in s)
    settles =
        let P : List Commit → Type 0 = λ cs. settled (decided_in decided_core) (txs_of (cs ++ d ∷ [])) (kept_in s) ≡ settle_one m (settled (decided_in waiting_core) (txs_of cs) (kept_in s)) in
        subst P follows.joint.commits (settled-decided voted waiting_core waiting d waits waiting-there refl branched refl refl (kept_in s)) ∙ ap (settle_one m) still

    whole : IsWhole (core_stored decided_core)
    whole =
        let before : IsWhole (storing s.commits (kept_in s)) = subst IsWhole (sym (stored-core s) ∙ stored-before) follows.joint.whole in
        subst IsWhole (ap (storing (s.commits ++ d ∷ [])) (sym settles)) (whole-decided s.commits s.backups s.rows_opening s.links_opening (kept_in s) m d before owed.merges owed.ready)

    moved-there : (p : List ℕ) → on (links later) p ≡ held_after m p (on (links (tables_after [] f.rows.commits)) p)
    moved-there p = owed.merges.moved p ∙ ap (λ (cs : List Commit). held_after m p (on (links (tables_after [] cs)) p)) (sym follows.joint.commits)

    ready-there : IsReady m (kept_of f)
    ready-there =
        let P : Files → Copies → Type 0 = λ files copies. IsReady m (record { files = files; copies = copies; held = f.links.held }) in
        subst (λ (files : Files). P files f.copies) (sym follows.joint.files) (subst (P s.files) (sym follows.joint.copies) owed.ready)

    decides : Joint done decided_core
    decides = restore-committed f (core_of s) follows.joint idle-works bound m (drawn-here m.gives owed.moved_drawn.0) (drawn-here m.takes owed.moved_drawn.1) d number branched refl refl refl refl moved-there ready-there (drawn-here (links later) owed.drawn) whole

    done-stands : IsStand done (stored behind)
    done-stands = subst (IsStand done) (ap (storing (s.commits ++ d ∷ [])) settles ∙ sym stored-behind) (joint_stands done decided_core decides)

    -- each front of its Finish
    committed : is_some (commit_of (number_of s + 1) (f.rows.commits ++ d ∷ [])) ≡ true
    committed = ap is_some (ap (λ (q : ℕ). commit_of q (f.rows.commits ++ d ∷ [])) (sym number) ∙ commit_of-here d f.rows.commits (ap (λ (q : ℕ). commit_of q f.rows.commits) number ∙ no-commit))

    same-records : finish_records (number_of s + 1) branch_phases.Prepared m (kept_of done) ≡ finish
    same-records = λ i. finish_records (number_of s + 1) branch_phases.Prepared m (record { files = follows.joint.files i; copies = follows.joint.copies i; held = f.links.held })

    finish-stands : FrontsStand done finish (stored behind)
    finish-stands = subst (λ (xs : List Written). FrontsStand done xs (stored behind)) same-records
        (goes_on done (stored behind) (number_of s + 1) m branch_phases.Prepared done-stands committed (get-here f.links.table (number_of s + 1) (branch m branch_phases.Prepared)) refl owed.numbers)

    abbrev There : List Written → Type 0
    There front = (later : Folds) × (folds_on (Some f) front ≡ Some later) × IsStand later (stored_by front)

    both-taken : (more : List Written) → folds_on (Some f) (prepare ∷ commit ∷ more) ≡ folds_on (Some done) more
    both-taken more = ap (λ (o : Option Folds). folds_on (option_and_then (λ (g : Folds). folds_step g commit) o) more) voted-taken ∙ ap (λ (o : Option Commits). folds_on (with_rows voted o) more) commit-taken

    branched-holds : Holds f (prepare ∷ commit ∷ finish) stored_by
    branched-holds [] rest w is = (f, refl, stand)
    branched-holds (x ∷ []) rest w is = subst (λ (v : Written). There (v ∷ [])) (sym (heads x prepare (w ∷ rest) (commit ∷ finish) is)) (voted, voted-taken, voted-stands)
    branched-holds (x ∷ y ∷ more) rest w is =
        let is_more = tails x prepare (y ∷ more ++ w ∷ rest) (commit ∷ finish) is in
        let on = finish-stands more (w ∷ rest) (tails y commit (more ++ w ∷ rest) finish is_more) in
        subst (λ (v : Written). There (v ∷ y ∷ more)) (sym (heads x prepare (y ∷ more ++ w ∷ rest) (commit ∷ finish) is))
        (subst (λ (v : Written). There (prepare ∷ v ∷ more)) (sym (heads y commit (more ++ w ∷ rest) finish is_more))
        (on.0, both-taken more ∙ on.1, on.2))

  abbrev of_restore : Bool → List Written
  of_restore b = when b (prepare ∷ []) ++ commit ∷ when b finish

  restored-holds : IsTaken f (restore_by s (number_of (drawing s)) target later) → Holds f (restore_by s (number_of (drawing s)) target later) stored_by
  restored-holds =
      let P : ℕ → Type 0 = λ q. IsTaken f (restore_by s q target later) → Holds f (restore_by s q target later) stored_by in
      subst P (sym number) (by (has_links m) refl)
    where
      by : (b : Bool) → has_links (restore_moved s later) ≡ b → IsTaken f (of_restore b) → Holds f (of_restore b) stored_by
      by true has on = branched-holds has on
      by false none on = one-holds f (commit ∷ []) stored_by stand tt

-- it writes this, and leads to that state
abbrev Stops : Folds → State → List Written → State → Type 0
Stops f s xs behind = IsTaken f xs → Holds f xs (λ front. stored (cond (has_commit front) behind s))

-- A RESTORE, let through or not
pub restore-holds : JointStands → FinishStands → (first : ℕ) (f : Folds) (s : State) → AreSound first f s → IsStand f (stored s) → s.drawn + 1 < 2 ^ 32 → (t : Target) → AreRestored s t → IsTaken f (writes s (steps.Restore t))
    → Holds f (writes s (steps.Restore t)) (λ front. stored (left_by s (steps.Restore t) front))
unfolding step writes
restore-holds joint_stands goes_on first f s sound stand small t owed = by (first_session s) refl
  where
    none : Stops f s [] s
    none on = one-holds f [] (λ front. stored (cond (has_commit front) s s)) stand tt

    at : ((q : ℕ) → maps.get s.txs q ≡ None) → (target : Tables) → (o : Option (List ℕ)) → (o ≡ None → IsRestored s (without_lost (lost_to s target) target) (restore_to s target)) → Stops f s (restore_writes s (Some target) (restore_at s target o).0) (restore_at s target o).1
    at idle target (Some path) owes = none
    at idle target None owes = restored-holds joint_stands goes_on f s sound.follows stand idle small (without_lost (lost_to s target) target) (restore_to s target) (owes refl)

    with_target : first_session s ≡ None → unfinished s ≡ None → (o : Option Tables) → target_tables s t ≡ o → Stops f s (restore_writes s o (restore_found s t o).0) (restore_found s t o).1
    with_target free all None is = none
    with_target free all (Some target) is = at (is-idle s sound.in_sessions free all) target (in_the_way s.files s.copies (gives (tables_of s) target) (filter (λ l. not (lost_to s target l)) (takes (tables_of s) target))) (owed target free all is)

    idle_at : first_session s ≡ None → (o : Option (ℕ × Txn)) → unfinished s ≡ o → Stops f s (restore_writes s (target_tables s t) (restore_idle s t o).0) (restore_idle s t o).1
    idle_at free (Some e) is = none
    idle_at free None is = with_target free is (target_tables s t) refl

    by : (o : Option ℕ) → first_session s ≡ o → Stops f s (restore_writes s (target_tables s t) (restore s t o).0) (restore s t o).1
    by (Some session) is = none
    by None is = idle_at is (unfinished s) refl
