-- TABLES ARE RESTORED: what the machine does and writes, and the engine behind it.
use Rattle.std.proofs.Common.{◌≡◌, ℕ, ◌+◌, ◌*◌, ◌/◌, ◌^◌, ◌<◌, ◌≤◌, ◌==◌, ◌&&◌, Bool, true, false, not, cond, List, [], ◌∷◌, ◌++◌, filter, length, Option, Some, None, is_none, is_some, Result, Ok, Err, IfOk, OnOk, refl, sym, ◌∙◌, ap, subst, arith}
use Rattle.std.specs.FinMap as maps
use Rattle.std.specs.List.{list_any}
use Rattle.std.specs.Option.{option_map}
use Rattle.std.specs.Result.{result_err}
use Rattle.bk_restore.specs.Planning.{HasOwned, IsPlanned}
use Rattle.bk_restore.specs.declared.planning.Planned.TheVariants as planned
use Rattle.bk_restore.specs.declared.planning.RestorePlan.{RestorePlan}
use Rattle.db_changes.specs.Handles.{NewLast}
use Rattle.db_changes.specs.Made.{Making, rooms_for}
use Rattle.db_replay.specs.Changes.{all_at_version, applied}
use Rattle.db_store.specs.Store.{CanEnd, Database, IsTaken, applied_with, committed_with, drawn_next}
use Rattle.dl_areas.proofs.Appending.{does-exhausted}
use Rattle.dl_areas.specs.Lists.{Journals, Write, write_of}
use Rattle.dl_areas.specs.Writing.{Does, Ends}
use Rattle.dl_base.specs.Faults.{step_fault}
use Rattle.dl_base.specs.Outside.{Outside}
use Rattle.dl_base.specs.declared.answer.Answer.{Answer}
use Rattle.dl_base.specs.declared.answer.Answer.TheVariants as answers
use Rattle.dl_base.specs.declared.answer.Refusal.{Refusal}
use Rattle.dl_base.specs.declared.answer.Refusal.TheVariants as reasons
use Rattle.dl_base.specs.declared.answer.RestoreRefusal.TheVariants as restores
use Rattle.dl_base.specs.declared.area.Area.TheVariants as areas
use Rattle.dl_base.specs.declared.fault.AppendFault.{AppendFault}
use Rattle.dl_base.specs.declared.fault.AppendFault.TheVariants as appends
use Rattle.dl_base.specs.declared.fault.Full.{Full}
use Rattle.dl_base.specs.declared.fault.StepFault.{StepFault}
use Rattle.dl_base.specs.declared.fault.StepFault.TheVariants as faults
use Rattle.dl_base.specs.declared.step.Step.TheVariants as steps
use Rattle.dl_base.specs.declared.step.Target.{Target}
use Rattle.dl_base.specs.declared.value.LinkRow.{LinkRow}
use Rattle.dl_codec.specs.declared.links.BranchPhase.TheVariants as branch_phases
use Rattle.dl_codec.specs.declared.rows.RowsRecord.TheVariants as rows_records
use Rattle.fm_archive.specs.Stock.{Stock}
use Rattle.fm_links.specs.Claims.{PathClaim}
use Rattle.fm_links.specs.Searching.{AreClaims}
use Rattle.fm_manager.proofs.Spelled.{spelled-both}
use Rattle.fm_manager.specs.Managed.{AreSpelled, as_writes}
use Rattle.fm_manager.specs.Pieces.{Pieces}
use Rattle.fm_pieces.specs.Keeping.{HasPieces}
use Rattle.fs_files.specs.Store.{Catalog}
use Rattle.meaning_areas.proofs.Tables.{commit_of-here, some_same, test-same}
use Rattle.meaning_areas.specs.Branches.{branch}
use Rattle.meaning_areas.specs.Commits.{Commit, Commits, commit_of, commit_to, ends_on, fitting, has_number, tables_after, with_commit, with_ended, with_table_changes}
use Rattle.meaning_areas.specs.Finishing.{finish_records}
use Rattle.meaning_areas.specs.Lists.{Folds, Written, folds_on, in_rows}
use Rattle.meaning_areas.specs.Stands.{kept_of}
use Rattle.meaning_history.specs.Sound.{AreSound}
use Rattle.meaning_merge.specs.Restoring.{in_the_way, restore_changes, without_lost}
use Rattle.meaning_settling.specs.Keyed.{Keyed}
use Rattle.meaning_settling.specs.Settling.{Moved}
use Rattle.meaning_system.proofs.Kept.{number-present}
use Rattle.meaning_system.proofs.Leading.{all_true}
use Rattle.meaning_system.specs.Following.{AreRestored, IsRestored}
use Rattle.meaning_areas.specs.Full.{draw_full}
use Rattle.meaning_system.specs.Machine.{drawing, first_session, lost_to, next_commit, restore, restore_at, restore_found, restore_idle, restore_moved, restore_to, restored_state, step, target_tables, unfinished}
use Rattle.meaning_system.specs.State.{State, Txn, has_links, is_active, number_of, tables_of}
use Rattle.meaning_system.specs.Writes.{prepared, restore_by, restore_target, restore_writes, when, whole_finish, writes}
use Rattle.meaning_tables.specs.Links.{gives, takes}
use Rattle.meaning_tables.specs.Tables.{Tables}
use Rattle.sys_core.proofs.Beginning.{draw-left, next-is}
use Rattle.sys_core.proofs.Behind.{EachLeads}
use Rattle.sys_core.proofs.Commanding.{seated-same}
use Rattle.sys_core.proofs.Deciding.{room-for}
use Rattle.sys_core.proofs.Refused.{IsRefused}
use Rattle.sys_core.proofs.Roomy.{room-state}
use Rattle.sys_core.proofs.Seating.{PiecesStay}
use Rattle.sys_core.proofs.Stepped.{steps-done}
use Rattle.sys_core.specs.Restoring.{CanPutBack, CanRestore}
use Rattle.sys_core.specs.Standing.{IsOf}
use Rattle.sys_core.specs.Steps.{Steps, draws_for, records_of, undrawn}
use Rattle.sys_core.specs.declared.engine.Engine.{Engine}
use Rattle.sys_owners.proofs.Spelling.{finish-spelled}
use Rattle.sys_owners.specs.Owned.{Owned, folds_in, journals_of}
use Rattle.sys_records.proofs.PuttingBack.{no-finish}
use Rattle.sys_records.proofs.Spelled.{as-spelled}
use Rattle.sys_records.specs.Restoring.{ArePieces, ArePiecesSpelled, CanWrite, IsMadeFor, commit_part, making_by, moved_by, moved_in, restore_part}
use Rattle.sys_records.specs.Room.{HaveMoreRoom}
use Rattle.sys_records.specs.declared.restoring.Restoration.{Restoration}
use Rattle.sys_seats.specs.Seats.{all_of, gives_of, votes_of}

none_some : {A : Type 0} (x : A) → None ≡ Some x → ⊥
none_some x e = cc

false_true : false ≡ true → ⊥
false_true e = cc

ok_err : {T E : Type 0} (x : T) (e : E) → ◌≡◌ {A = Result T E} (Ok x) (Err e) → ⊥
ok_err x e is = cc

err_same : {T E : Type 0} (x y : E) → ◌≡◌ {A = Result T E} (Err x) (Err y) → x ≡ y
err_same x y e = cc

-- WHAT THE MACHINE DOES

-- it is refused
module _ (s : State) (t : Target) where
  restore-refused : (why : Refusal) → step s (steps.Restore t) ≡ (answers.Refused why, s) → IsRefused s (steps.Restore t) why
  unfolding writes
  restore-refused why is = record {
    is = is;
    records = ap (λ (r : Answer × State). draws_for r.0 (s.drawn + 1) ++ as_writes (restore_writes s (target_tables s t) r.0)) is;
  }

  pub busy-refused : (n : ℕ) → first_session s ≡ Some n → IsRefused s (steps.Restore t) (reasons.SessionBusy n)
  unfolding step
  busy-refused n is = restore-refused (reasons.SessionBusy n) (ap (restore s t) is)

  pub plan-refused : (why : Refusal) → first_session s ≡ None → IsPlanned s t (planned.Refused why) → IsRefused s (steps.Restore t) why
  unfolding step
  plan-refused why idle is = restore-refused why (ap (restore s t) idle ∙ is)

  pub refused-spelled : (why : Refusal) → IsRefused s (steps.Restore t) why → AreSpelled (writes s (steps.Restore t))
  unfolding writes
  refused-spelled why refused = subst (λ (r : Answer × State). AreSpelled (restore_writes s (target_tables s t) r.0)) (sym refused.is) tt

-- the plan is over what the owners have
pub has-owned : (first : ℕ) (w : Engine) (s : State) (files : Catalog) (copies : Stock) (o : Option ℕ) → IsOf first w s → files ≡ w.owners.manager.files → copies ≡ w.owners.manager.archive → o ≡ option_map (λ (e : ℕ × Txn). e.0) (unfinished s)
    → HasOwned s w.owners.store w.owners.backups files copies o
has-owned first w s files copies o is same_files same_copies waits = record {
  commits = sym is.sound.follows.joint.commits;
  backups = sym is.sound.follows.joint.backups;
  files = sym is.sound.follows.joint.files ∙ ap (λ (x : Catalog). x.files) (sym same_files);
  copies = sym is.sound.follows.joint.copies ∙ ap (λ (x : Stock). x.copies) (sym same_copies);
  waits = sym waits;
}

-- it is let through, and this is what it does
module _ (s : State) (t : Target) (p : RestorePlan) (idle : first_session s ≡ None) (plan : IsPlanned s t (planned.Ready p)) where
  abbrev target : Tables
  target = plan.0

  abbrev bare : Tables
  bare = without_lost (lost_to s target) target

  abbrev later : Tables
  later = restore_to s target

  abbrev restored : Answer × State
  restored = (answers.Restored (next_commit s) p.lost, restored_state s later)

  pub restored-step : step s (steps.Restore t) ≡ restored
  unfolding step
  restored-step = ap (restore s t) idle ∙ plan.2

  refused_restored : (why : Refusal) → (answers.Refused why, s) ≡ restored → ⊥
  refused_restored why e = no (ap (λ (r : Answer × State). r.0) e)
    where
      no : answers.Refused why ≡ answers.Restored (next_commit s) p.lost → ⊥
      no is = cc

  none-unfinished : unfinished s ≡ None
  none-unfinished = by (unfinished s) refl
    where
      by : (o : Option (ℕ × Txn)) → unfinished s ≡ o → unfinished s ≡ None
      by None is = is
      by (Some e) is = absurd (refused_restored (reasons.Unfinished e.0) (sym (ap (restore_idle s t) is) ∙ plan.2))

  abbrev way : Option (List ℕ)
  way = in_the_way s.files s.copies (gives (tables_of s) target) (filter (λ l. not (lost_to s target l)) (takes (tables_of s) target))

  none-in-the-way : way ≡ None
  none-in-the-way = by way refl
    where
      found : restore_at s target way ≡ restored
      found = sym (ap (restore_idle s t) none-unfinished ∙ ap (restore_found s t) plan.1) ∙ plan.2

      by : (o : Option (List ℕ)) → way ≡ o → way ≡ None
      by None is = is
      by (Some path) is = absurd (refused_restored (reasons.Restore (restores.InTheWay path)) (sym (ap (restore_at s target) is) ∙ found))

  pub owed-then : AreRestored s t → IsRestored s bare later
  owed-then owed = owed target idle none-unfinished plan.1 none-in-the-way

  moves : moved_by p ≡ restore_moved s later
  moves = λ i. record {
    gives = plan.3.gives (next_commit s) i;
    takes = plan.3.takes (next_commit s) i;
    fill = (plan.3.fill ∙ ap (λ (ls : List LinkRow). list_any (λ (l : LinkRow). l.options.recovery) ls) (plan.3.takes (next_commit s))) i;
  }

  restored-writes : writes s (steps.Restore t) ≡ restore_by s (number_of (drawing s)) bare later
  unfolding writes
  restored-writes = ap (λ (r : Answer × State). restore_writes s (target_tables s t) r.0) restored-step ∙ ap (restore_target s) plan.1

  restored-draws : (ws : List Written) → writes s (steps.Restore t) ≡ ws → records_of s (steps.Restore t) ≡ undrawn (draw_full (s.drawn + 1)) ++ as_writes ws
  restored-draws ws are = ap (λ (r : Answer × State). draws_for r.0 (s.drawn + 1) ++ as_writes (writes s (steps.Restore t))) restored-step ∙ ap (λ (xs : List Written). undrawn (draw_full (s.drawn + 1)) ++ as_writes xs) are

  restored-records : draw_full (s.drawn + 1) ≡ None → (ws : List Written) → writes s (steps.Restore t) ≡ ws → records_of s (steps.Restore t) ≡ as_writes ws
  restored-records left ws are = restored-draws ws are ∙ ap (λ (o : Option Full). undrawn o ++ as_writes ws) left

-- OVER THE OWNERS
abbrev pub ClaimsRestore : Type 0
ClaimsRestore = (claims : Keyed PathClaim) (s : State) (t : Target) → AreClaims claims s → AreClaims claims (step s (steps.Restore t)).1

pub record Laws : Type 0 where
  pub leads : EachLeads
  pub claims : ClaimsRestore
  pub pieces : PiecesStay
  pub owed : (first : ℕ) (f : Folds) (s : State) → AreSound first f s → (t : Target) → AreRestored s t

module _ (laws : Laws) (first : ℕ) (w : Engine) (s : State) (t : Target) (p : RestorePlan) (can : CanRestore first w s t p) where
  abbrev f : Folds
  f = folds_in w.owners

  abbrev r : Commits
  r = w.owners.store.rows

  abbrev tx : ℕ
  tx = drawn_next w.owners.store

  abbrev making : Making
  making = making_by tx p

  abbrev gone : Moved
  gone = moved_by p

  commits : r.commits ≡ s.commits
  commits = can.state.sound.follows.joint.commits

  number : tx ≡ number_of (drawing s)
  number = next-is first w s can.state

  count : length r.commits + 1 ≡ next_commit s
  count = ap (λ (cs : List Commit). length cs + 1) commits

  owed : IsRestored s (bare s t p can.idle can.plan) (later s t p can.idle can.plan)
  owed = owed-then s t p can.idle can.plan (laws.owed first f s can.state.sound t)

  -- its records
  part-is : writes s (steps.Restore t) ≡ restore_part f making gone
  part-is = restored-writes s t p can.idle can.plan ∙ sym over
    where
      changes : p.changes ≡ restore_changes (tables_of s) (bare s t p can.idle can.plan)
      changes = can.plan.3.changes

      moved : moved_by p ≡ restore_moved s (later s t p can.idle can.plan)
      moved = moves s t p can.idle can.plan

      over : restore_part f making gone ≡ restore_by s (number_of (drawing s)) (bare s t p can.idle can.plan) (later s t p can.idle can.plan)
      over =
          (λ i. prepared (number i) (moved i) ++ in_rows (rows_records.Commit (number i) (count i) (has_links (moved i)) (changes i))
          ∷ whole_finish (number i) (moved i) (record { files = can.state.sound.follows.joint.files i; copies = can.state.sound.follows.joint.copies i; held = f.links.held }))

  leads : (g : Folds) × (folds_on (Some f) (writes s (steps.Restore t)) ≡ Some g) × AreSound first g (step s (steps.Restore t)).1
  leads = laws.leads first f s (steps.Restore t) can.state.sound can.state.few (λ u e. laws.owed first f s can.state.sound u)

  -- the fold of Rows takes its commit, which leads to the tables of the plan
  fresh : (commit_of tx r.commits ≡ None) × (maps.get f.links.table tx ≡ None)
  fresh =
      let are = can.state.sound.follows.joint.numbers tx (above s.rows_opening s.drawn tx number) in
      (are.1, are.2)
    where
      above : (o d n : ℕ) → n ≡ o * 2 ^ 32 + (d + 1) → o * 2 ^ 32 + d < n
      above o d n e = omega (arith, e)

  present : tx / 2 ^ 32 ≡ r.opening
  present = ap (λ (n : ℕ). n / 2 ^ 32) number ∙ number-present s.rows_opening (s.drawn + 1) can.state.few ∙ sym can.state.sound.follows.joint.rows_opening

  applied-here : applied_with r making ≡ later s t p can.idle can.plan
  applied-here = (λ i. applied (tables_after [] (commits i)) (all_at_version (count i) p.handles)) ∙ can.plan.3.handles (next_commit s)

  changed-here : with_table_changes (length r.commits + 1) (tables_after [] r.commits) p.changes ≡ Some (later s t p can.idle can.plan)
  changed-here = (λ i. with_table_changes (count i) (tables_after [] (commits i)) (can.plan.3.changes i)) ∙ owed.changes

  commit-taken : IsTaken r making
  commit-taken =
      let test : ((length r.commits + 1 == length r.commits + 1) && is_none (commit_of tx r.commits) && (tx / 2 ^ 32 == r.opening)) ≡ true =
      all_true _ _ (all_true _ _ (test-same (length r.commits + 1) (length r.commits + 1) refl) (ap is_none fresh.0)) (test-same (tx / 2 ^ 32) r.opening present) in
      ap (λ b. cond b (fitting r tx (has_links gone) (with_table_changes (length r.commits + 1) (tables_after [] r.commits) p.changes)) None) test
      ∙ ap (fitting r tx (has_links gone)) changed-here
      ∙ ap (λ b. cond b (Some (with_commit r (commit_to r.commits tx (has_links gone) (later s t p can.idle can.plan)))) None) owed.fit
      ∙ ap (λ (ts : Tables). Some (with_commit r (commit_to r.commits tx (has_links gone) ts))) (sym applied-here)

  -- and the end of its branch
  once : has_number tx r.ended ≡ false
  once = by (has_number tx r.ended) refl
    where
      by : (b : Bool) → has_number tx r.ended ≡ b → has_number tx r.ended ≡ false
      by true e = let done = can.state.sound.follows.joint.ended tx e in absurd (none_some (branch done.0 branch_phases.Done) (sym fresh.1 ∙ done.1))
      by false e = e

  can-end : has_links gone ≡ true → CanEnd (committed_with r making) tx
  can-end has =
      ap (ends_on (committed_with r making) tx) (commit_of-here (commit_to r.commits tx (has_links gone) (applied_with r making)) r.commits fresh.0)
      ∙ ap (λ c. cond (c && not (has_number tx r.ended)) (Some (with_ended (committed_with r making) tx)) None) has
      ∙ ap (λ c. cond (not c) (Some (with_ended (committed_with r making) tx)) None) once

  -- WHAT WAS MADE FOR IT
  module _ (left : draw_full (w.owners.store.drawn + 1) ≡ None) (q : Restoration) (made : IsMadeFor w.owners tx p q) where
    abbrev as_planned : Restoration
    as_planned = record { lost = p.lost; made = making; gives = p.gives; takes = p.takes; fill = p.fill; pieces = q.pieces }

    same : as_planned ≡ q
    same = λ i. record { lost = sym made.lost i; made = sym made.made i; gives = sym made.gives i; takes = sym made.takes i; fill = sym made.fill i; pieces = q.pieces }

    put-writes : writes s (steps.Restore t) ≡ restore_part f q.made (moved_in q)
    put-writes = part-is ∙ ap (λ (x : Restoration). restore_part f x.made (moved_in x)) same

    left-here : draw_full (s.drawn + 1) ≡ None
    left-here = subst (λ (n : ℕ). draw_full (n + 1) ≡ None) can.state.drawn left

    -- it can be written
    pub can-write : rooms_for p.handles ≤ w.owners.store.spare → CanWrite w.owners q
    can-write room = subst (λ (x : Restoration). CanWrite w.owners x) same (record {
      commit = commit-taken;
      room = room;
      left = left;
      pieces = made.pieces;
      fill = can.plan.3.fill;
      free = fresh.1;
      taken = ap (λ (ws : List Written). is_some (folds_on (Some f) ws)) (sym part-is) ∙ ap is_some leads.1;
      end = can-end;
    })

    -- each of its records has a spelling
    finish-of : (o : Option Pieces) → ArePieces w.owners.manager tx gone o → ArePiecesSpelled o → AreSpelled (whole_finish tx gone (kept_of f))
    finish-of None are spelled = as-spelled (whole_finish tx gone (kept_of f)) [] (no-finish tx gone (kept_of f) are) tt
    finish-of (Some x) are spelled =
        as-spelled (whole_finish tx gone (kept_of f)) (finish_records x.tx branch_phases.Prepared gone (kept_of f))
        (ap (λ c. when c (finish_records tx branch_phases.Prepared gone (kept_of f))) are.has ∙ ap (λ (n : ℕ). finish_records n branch_phases.Prepared gone (kept_of f)) (sym are.own))
        (finish-spelled x branch_phases.Prepared gone (kept_of f) are.of spelled)

    pub put-spelled : AreSpelled (prepared q.made.tx (moved_in q)) → AreSpelled (writes s (steps.Restore t))
    put-spelled spelled =
        as-spelled (writes s (steps.Restore t)) (restore_part f making gone) part-is
        (spelled-both (prepared tx gone) (commit_part f making gone) (subst (λ (x : Restoration). AreSpelled (prepared x.made.tx (moved_in x))) (sym same) spelled) (made.fits, finish-of q.pieces made.pieces made.spelled))

    module _ (v : Owned) (o n : Outside) where
      abbrev put : Engine
      put = record w { owners = v }

      abbrev behind : State
      behind = restored_state s (later s t p can.idle can.plan)

      is-behind : (step s (steps.Restore t)).1 ≡ behind
      is-behind = ap (λ (x : Answer × State). x.1) (restored-step s t p can.idle can.plan)

      -- THE ENGINE IS IN THE STATE BEHIND IT
      module _ (folds : folds_on (Some f) (restore_part f q.made (moved_in q)) ≡ Some (folds_in v)) (drawn : v.store.drawn ≡ w.owners.store.drawn + 1) (spare : w.owners.store.spare ≤ v.store.spare + q.made.rooms)
          (copies : w.owners.manager.archive.spare ≤ v.manager.archive.spare + length q.gives) (room_commits : all_of votes_of w.seats + rooms_for p.handles ≤ w.owners.store.spare) (room_copies : all_of gives_of w.seats + length p.gives ≤ w.owners.manager.archive.spare) where
        sound : AreSound first (folds_in v) behind
        sound =
            subst (λ (g : Folds). AreSound first g behind) (some_same leads.0 (folds_in v) (sym leads.1 ∙ ap (folds_on (Some f)) put-writes ∙ folds))
            (subst (λ (x : State). AreSound first leads.0 x) is-behind leads.2)

        keeps : (u : ℕ) (x : Txn) (y : Option Pieces) → maps.get s.txs u ≡ Some x → is_active x.phase ≡ false → HasPieces s u x y → HasPieces behind u x y
        keeps u x y at rests has =
            subst (λ (z : State). HasPieces z u x y) is-behind
            (laws.pieces first f s (steps.Restore t) u x y can.state.sound at rests (ap (λ (z : State). maps.get z.txs u) is-behind ∙ at) has)

        put-state : IsOf first put behind
        put-state = record {
          sound = sound;
          drawn = drawn ∙ ap (λ (k : ℕ). k + 1) can.state.drawn;
          few = draw-left (s.drawn + 1) left-here;
          moment = can.state.moment;
          settings = can.state.settings;
          claims = subst (λ (x : State). AreClaims w.claims.claims x) is-behind (laws.claims w.claims.claims s t can.state.claims);
          seats = seated-same s behind w.seats refl keeps can.state.seats;
          room = record {
            commits = within (all_of votes_of w.seats) (rooms_for p.handles) q.made.rooms w.owners.store.spare v.store.spare room_commits (ap (λ (m : Making). m.rooms) made.made) spare;
            copies = within (all_of gives_of w.seats) (length p.gives) (length q.gives) w.owners.manager.archive.spare v.manager.archive.spare room_copies (ap length made.gives) copies;
          };
        }
          where
            within : (a l m b c : ℕ) → a + l ≤ b → m ≡ l → b ≤ c + m → a ≤ c
            within a l m b c x e y = omega (arith, x, e, y)

        pub put-done : (told : Answer) → told ≡ answers.Restored (length r.commits + 1) q.lost → Ends (journals_of w.owners) (journals_of v) (as_writes (restore_part f q.made (moved_in q))) None o n
            → Steps first (steps.Restore t) s w put (Ok told) o n
        put-done told is ends =
            steps-done first (steps.Restore t) s w put o n (as_writes (restore_part f q.made (moved_in q)))
            (restored-records s t p can.idle can.plan left-here (restore_part f q.made (moved_in q)) put-writes) told behind
            (restored-step s t p can.idle can.plan ∙ ap (λ (a : Answer). (a, behind)) ((λ i. answers.Restored (sym count i) (sym made.lost i)) ∙ sym is)) put-state ends

      -- it is not
      pub put-fault : (fault : StepFault) → (◌≡◌ {A = Result Answer StepFault} (Err fault) (Err faults.Memory) → v ≡ w.owners) → Ends (journals_of w.owners) (journals_of v) (as_writes (restore_part f q.made (moved_in q))) (Some fault) o n
          → Steps first (steps.Restore t) s w put (Err fault) o n
      put-fault fault kept ends = record {
        answers = tt;
        memory = λ e. subst (λ (x : Owned). IsOf first (record w { owners = x }) s) (sym (kept e)) can.state;
        ends = subst (λ (ws : List Write). Ends (journals_of w.owners) (journals_of v) ws (Some fault) o n)
            (sym (restored-records s t p can.idle can.plan left-here (restore_part f q.made (moved_in q)) put-writes)) ends;
      }

-- BEFORE IT IS WRITTEN there is more room

pub can-roomy : (first : ℕ) (w : Engine) (s : State) (t : Target) (p : RestorePlan) (u : Owned) → HaveMoreRoom w.owners u → CanRestore first w s t p → CanRestore first (record w { owners = u }) s t p
can-roomy first w s t p u more can = record { state = room-state first w s u more can.state; idle = can.idle; plan = can.plan }

pub can-put-back : (first : ℕ) (w : Engine) (s : State) (t : Target) (p : RestorePlan) (u : Owned) (q : Restoration) (n : ℕ) → HaveMoreRoom w.owners u → CanRestore first w s t p → draw_full (w.owners.store.drawn + 1) ≡ None → n ≡ drawn_next w.owners.store
    → IsMadeFor u n p q → all_of votes_of w.seats + rooms_for p.handles ≤ u.store.spare → all_of gives_of w.seats + length p.gives ≤ u.manager.archive.spare → CanPutBack first (record w { owners = u }) s t p q
can-put-back first w s t p u q n more can left number made commits copies = record {
  can = can-roomy first w s t p u more can;
  left = subst (λ (d : Database). draw_full (d.drawn + 1) ≡ None) (sym more.store) left;
  made = subst (λ (m : ℕ). IsMadeFor u m p q) (number ∙ ap drawn_next (sym more.store)) made;
  commits = commits;
  copies = copies;
}

-- the handles of a plan are in order
pub plan-last : (first : ℕ) (w : Engine) (s : State) (t : Target) (p : RestorePlan) → CanRestore first w s t p → NewLast p.handles
plan-last first w s t p can = can.plan.3.last

-- NO NUMBER IS LEFT
module _ (first : ℕ) (w : Engine) (s : State) (t : Target) (p : RestorePlan) (can : CanRestore first w s t p) (a : AppendFault) (e : StepFault) (why : Some a ≡ option_map (λ f. appends.Full f) (draw_full (w.owners.store.drawn + 1)))
    (from : e ≡ step_fault a) where
  full-of : (o : Option Full) → Some a ≡ option_map (λ f. appends.Full f) o → (g : Full) × (o ≡ Some g) × (a ≡ appends.Full g)
  full-of None at = absurd (none_some a (sym at))
  full-of (Some g) at = (g, refl, some_same a (appends.Full g) at)

  found : (g : Full) × (draw_full (w.owners.store.drawn + 1) ≡ Some g) × (a ≡ appends.Full g)
  found = full-of (draw_full (w.owners.store.drawn + 1)) why

  full-here : draw_full (s.drawn + 1) ≡ Some found.0
  full-here = subst (λ (n : ℕ). draw_full (n + 1) ≡ Some found.0) can.state.drawn found.1

  fault-is : e ≡ faults.Full found.0
  fault-is = from ∙ ap step_fault found.2

  -- then nothing is written
  pub restore-full : (o : Outside) → ((js : Journals) (ws vs : List Write) (g : AppendFault) → Does js js ws (Some g) o o → Does js js (ws ++ vs) (Some g) o o) → Steps first (steps.Restore t) s w w (Err e) o o
  restore-full o stop = record {
    answers = tt;
    memory = λ m. can.state;
    ends =
        subst (λ (g : StepFault). Ends (journals_of w.owners) (journals_of w.owners) (records_of s (steps.Restore t)) (Some g) o o) (sym fault-is)
        (subst (λ (ws : List Write). Does (journals_of w.owners) (journals_of w.owners) ws (Some (appends.Full found.0)) o o)
        (sym (restored-draws s t p can.idle can.plan (writes s (steps.Restore t)) refl ∙ ap (λ (x : Option Full). undrawn x ++ as_writes (writes s (steps.Restore t))) full-here))
        (stop (journals_of w.owners) (write_of areas.Rows [] (Some found.0) ∷ []) (as_writes (writes s (steps.Restore t))) (appends.Full found.0)
        (does-exhausted (journals_of w.owners) (write_of areas.Rows [] (Some found.0)) found.0 o refl)));
  }

  pub never-left : draw_full (s.drawn + 1) ≡ None → ⊥
  never-left left = none_some found.0 (sym left ∙ full-here)

-- HOW IT ENDS, by what the owners tell
pub put-steps : (laws : Laws) (first : ℕ) (w : Engine) (s : State) (t : Target) (p : RestorePlan) (q : Restoration) (all : CanPutBack first w s t p q) (v : Owned) (o n : Outside) (r : Result Answer StepFault)
    → IfOk r (λ told. told ≡ answers.Restored (length w.owners.store.rows.commits + 1) q.lost) → OnOk r (folds_on (Some (folds_in w.owners)) (restore_part (folds_in w.owners) q.made (moved_in q)) ≡ Some (folds_in v))
    → OnOk r (v.store.drawn ≡ w.owners.store.drawn + 1) → OnOk r (w.owners.store.spare ≤ v.store.spare + q.made.rooms) → OnOk r (w.owners.manager.archive.spare ≤ v.manager.archive.spare + length q.gives)
    → (r ≡ Err faults.Memory → v ≡ w.owners) → Ends (journals_of w.owners) (journals_of v) (as_writes (restore_part (folds_in w.owners) q.made (moved_in q))) (result_err r) o n
    → Steps first (steps.Restore t) s w (record w { owners = v }) r o n
put-steps laws first w s t p q all v o n (Ok told) is folds drawn spare copies kept ends = put-done laws first w s t p all.can all.left q all.made v o n folds drawn spare copies all.commits all.copies told is ends
put-steps laws first w s t p q all v o n (Err fault) is folds drawn spare copies kept ends = put-fault laws first w s t p all.can all.left q all.made v o n fault kept ends

pub may-write : (laws : Laws) (first : ℕ) (w : Engine) (s : State) (t : Target) (p : RestorePlan) (q : Restoration) → CanPutBack first w s t p q → CanWrite w.owners q
may-write laws first w s t p q all = can-write laws first w s t p all.can all.left q all.made (room-for (all_of votes_of w.seats) (rooms_for p.handles) w.owners.store.spare all.commits)
