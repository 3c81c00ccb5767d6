-- The records of a Decide lead to the lists of the state behind it, where the history behind the commit is as it should be.
use Rattle.std.proofs.Common.{◌≡◌, ℕ, ◌+◌, ◌/◌, ◌^◌, ◌==◌, List, [], ◌∷◌, ◌++◌, Bool, true, false, not, cond, ◌&&◌, length, Option, Some, None, is_none, refl, sym, ◌∙◌, ap, subst}
use Rattle.std.specs.FinMap as maps
use Rattle.dl_base.specs.declared.answer.Answer.TheVariants as answers
use Rattle.dl_base.specs.declared.answer.Refusal.{Refusal}
use Rattle.dl_base.specs.declared.step.Phase.{Phase}
use Rattle.dl_base.specs.declared.step.Phase.TheVariants as phases
use Rattle.dl_base.specs.declared.step.Step.TheVariants as steps
use Rattle.dl_codec.specs.declared.rows.RowsRecord.TheVariants as rows_records
use Rattle.meaning_areas.specs.Commits.{Commit, HaveMoved, commit_of, commit_to, fitting, rows_step, tables_after, with_commit, with_table_changes}
use Rattle.meaning_areas.specs.Core.{Work, core_stored, decided_in, decided_work, is_decided}
use Rattle.meaning_areas.specs.Lists.{Folds, in_rows, with_rows}
use Rattle.meaning_areas.specs.Moving.{core_decided, with_decision}
use Rattle.meaning_areas.specs.Same.{same_tables}
use Rattle.meaning_areas.specs.Stands.{AreDrawn, IsCommit, IsWhole, kept_of, stored_with, txs_of}
use Rattle.meaning_areas.proofs.Deciding.{moved-push, settled-decided}
use Rattle.meaning_areas.proofs.Equal.{tables-decide}
use Rattle.meaning_areas.proofs.OwnNumbers.{apart-by-paths, decided-of}
use Rattle.meaning_areas.proofs.Tables.{one-link-push, some_same, test-same}
use Rattle.meaning_areas.proofs.Whole.{in-last, in-more, whole-decided}
use Rattle.meaning_files.specs.Files.{Files}
use Rattle.meaning_merge.specs.Merging.{commit_changes}
use Rattle.meaning_settling.specs.Apart.{Apart, IsReady, ShareNoPath}
use Rattle.meaning_settling.specs.Settled.{settle_open, settled}
use Rattle.meaning_settling.specs.Settling.{Copies, Kept, Moved, held_after, on, settle_one}
use Rattle.meaning_settling.proofs.PartLaws.{ready-passes}
use Rattle.meaning_tables.specs.Links.{gives, links, takes}
use Rattle.meaning_tables.specs.Tables.{Tables}
use Rattle.meaning_system.specs.Claims.{conflict}
use Rattle.meaning_system.specs.CoreOf.{core_of, work_by}
use Rattle.meaning_system.specs.Following.{AreMerged, Follows, HasSessions, IsMerged, Leads}
use Rattle.meaning_system.specs.Machine.{by_conflict, commit_by, committed, decide, merged_by, next_commit, on_session, on_txn, step}
use Rattle.meaning_system.specs.State.{State, Txn, ended, has_links, is_empty, is_prepared, kept_in, moved_of, tables_of, txn_of}
use Rattle.meaning_system.specs.Writes.{decide_writes, session_writes, txn_writes, writes}
use Rattle.meaning_system.proofs.Cores.{settle-empty}
use Rattle.meaning_system.proofs.Leading.{plain-drops, prepared-aborts, prepared-agrees, prepared-work, stays, txn-there, works-are}
use Rattle.meaning_system.proofs.Stepping.{nothing, state-decided}

-- who is ready is so behind others that have nothing in common with it
ready-settled : (m : Moved) (open_at : ℕ → Option Moved) (ts : List ℕ) (k : Kept) → ((t : ℕ) (a : Moved) → open_at t ≡ Some a → Apart a m) → IsReady m k → IsReady m (settled open_at ts k)
ready-settled m open_at [] k apart ready = ready
ready-settled m open_at (t ∷ ts) k apart ready = ready-settled m open_at ts (settle_open (open_at t) k) apart (by (open_at t) refl)
  where
    by : (o : Option Moved) → open_at t ≡ o → IsReady m (settle_open o k)
    by None e = ready
    by (Some a) e = ready-passes a m k (apart t a e) ready

-- a copy that is the base moves nothing
same-moves : (t : Txn) → t.base ≡ t.copy → has_links (moved_of t) ≡ false
same-moves t e =
    ap (λ (x : Tables). not (is_empty (gives t.base x) && is_empty (takes t.base x))) (sym e)
    ∙ (λ i. not (is_empty (nothing t.base i) && is_empty (nothing t.base i)))

all_true : (a b : Bool) → a ≡ true → b ≡ true → (a && b) ≡ true
all_true true b e f = f
all_true false b e f = absurd cc

module _ (f : Folds) (s : State) (follows : Follows f s) (tx : ℕ) (t : Txn) (at : maps.get s.txs tx ≡ Some t) (is : t.phase ≡ phases.Prepared) where
  abbrev work : Work
  work = work_by phases.Prepared (moved_of t)

  there : (core_of s).works tx ≡ Some (work_by phases.Prepared (moved_of t))
  there = works-are f s follows tx t at (work_by phases.Prepared (moved_of t)) (prepared-work f s follows tx t at is)

  -- nobody that is decided is on a path of it
  alone : (q : ℕ) (a : Moved) → decided_in (core_of s) q ≡ Some a → ShareNoPath a (moved_of t)
  alone q a e = by ((core_of s).works q) refl e
    where
      chosen : (w : Work) (b : Bool) → cond b (Some w.moved) None ≡ Some a → w.moved ≡ a
      chosen w true same = some_same w.moved a same
      chosen w false same = absurd cc

      decided_too : (w : Work) → (core_of s).works q ≡ Some w → decided_work (Some w) ≡ Some a → (q ≡ tx) → ⊥
      decided_too w here d same = no (sym (ap decided_work (sym here ∙ ap (core_of s).works same ∙ there)) ∙ d)
        where
          no : None ≡ Some a → ⊥
          no x = cc

      by : (o : Option Work) → (core_of s).works q ≡ o → decided_work o ≡ Some a → ShareNoPath a (moved_of t)
      by None here d = absurd cc
      by (Some w) here d =
          let P : Moved → Type 0 = λ m. ShareNoPath m (moved_of t) in
          subst P (chosen w (is_decided w.stage && w.branch) d) (follows.joint.apart q tx (decided_too w here d) w (work_by phases.Prepared (moved_of t)) here there)

  module _ (merged : IsMerged s tx t) where
    abbrev d : Commit
    d = commit_by s tx t

    abbrev k : Kept
    k = settled (decided_in (core_of s)) (txs_of s.commits) (kept_in s)

    -- what it gives and takes are links of commits, with its own
    apart : (q : ℕ) (a : Moved) → decided_in (core_of s) q ≡ Some a → Apart a (moved_of t)
    apart q a e =
        let it = decided-of f (core_of s) follows.joint q a e in
        apart-by-paths (s.commits ++ commit_by s tx t ∷ []) (moved-push [] (commit_by s tx t) s.commits (subst (λ (cs : List Commit). HaveMoved [] cs) follows.joint.commits follows.joint.moved) refl refl)
        (one-link-push s.commits (commit_by s tx t) follows.joint.whole.one_path merged.merges.one_path) a (moved_of t) it.0 (commit_by s tx t)
        (record { among = in-more it.0 (commit_by s tx t) s.commits (subst (λ (cs : List Commit). IsCommit it.0 cs) follows.joint.commits it.1.among); gives = it.1.gives; takes = it.1.takes })
        (record { among = in-last (commit_by s tx t) s.commits; gives = sym merged.given; takes = sym merged.taken })
        (alone q a e)

    whole-behind : IsWhole (core_stored (core_decided (core_of s) (commit_by s tx t) (work_by phases.Prepared (moved_of t))))
    whole-behind =
        let P : List Commit → Type 0 = λ cs. settled (decided_in (core_decided (core_of s) (commit_by s tx t) (work_by phases.Prepared (moved_of t)))) (txs_of (cs ++ commit_by s tx t ∷ [])) (kept_in s)
        ≡ settle_open (cond (has_links (moved_of t)) (Some (moved_of t)) None) (settled (decided_in (core_of s)) (txs_of cs) (kept_in s)) in
        let one = subst P follows.joint.commits (settled-decided f (core_of s) follows.joint (commit_by s tx t) (work_by phases.Prepared (moved_of t)) there refl refl merged.given merged.taken (kept_in s)) in
        subst IsWhole (ap (stored_with (s.commits ++ commit_by s tx t ∷ []) s.backups s.rows_opening s.links_opening) (sym (one ∙ settles (has_links (moved_of t)) refl)))
        (whole-decided s.commits s.backups s.rows_opening s.links_opening (settled (decided_in (core_of s)) (txs_of s.commits) (kept_in s)) (moved_of t) (commit_by s tx t) follows.joint.whole merged.merges
        (ready-settled (moved_of t) (decided_in (core_of s)) (txs_of s.commits) (kept_in s) apart merged.ready))
      where
        settles : (b : Bool) → has_links (moved_of t) ≡ b → settle_open (cond b (Some (moved_of t)) None) (settled (decided_in (core_of s)) (txs_of s.commits) (kept_in s)) ≡ settle_one (moved_of t) (settled (decided_in (core_of s)) (txs_of s.commits) (kept_in s))
        settles true has = refl
        settles false none = sym (settle-empty (moved_of t) (settled (decided_in (core_of s)) (txs_of s.commits) (kept_in s)) none)

    -- the record is taken
    commit-taken : tx / 2 ^ 32 ≡ s.rows_opening → rows_step f.rows (rows_records.Commit tx (next_commit s) (has_links (moved_of t)) (commit_changes t.base t.copy)) ≡ Some (with_commit f.rows (commit_by s tx t))
    commit-taken present =
        let none : commit_of tx f.rows.commits ≡ None = (prepared-agrees f s follows tx t at is).0 in
        let test : ((next_commit s == length f.rows.commits + 1) && is_none (commit_of tx f.rows.commits) && (tx / 2 ^ 32 == f.rows.opening)) ≡ true =
        all_true _ _ (all_true _ _ (test-same (next_commit s) (length f.rows.commits + 1) (ap (λ (cs : List Commit). length cs + 1) (sym follows.joint.commits))) (ap is_none none))
        (test-same (tx / 2 ^ 32) f.rows.opening (present ∙ sym follows.joint.rows_opening)) in
        ap (λ b. cond b (fitting f.rows tx (has_links (moved_of t)) (with_table_changes (next_commit s) (tables_after [] f.rows.commits) (commit_changes t.base t.copy))) None) test
        ∙ ap (fitting f.rows tx (has_links (moved_of t))) (ap (λ (cs : List Commit). with_table_changes (next_commit s) (tables_after [] cs) (commit_changes t.base t.copy)) follows.joint.commits ∙ merged.changes)
        ∙ ap (λ b. cond b (Some (with_commit f.rows (commit_to f.rows.commits tx (has_links (moved_of t)) (merged_by s t)))) None) merged.fit
        ∙ ap (λ (cs : List Commit). Some (with_commit f.rows (commit_to cs tx (has_links (moved_of t)) (merged_by s t)))) follows.joint.commits

    ready-there : IsReady (moved_of t) (kept_of f)
    ready-there =
        let P : Files → Copies → Type 0 = λ files copies. IsReady (moved_of t) (record { files = files; copies = copies; held = f.links.held }) in
        subst (λ (files : Files). P files f.copies) (sym follows.joint.files) (subst (P s.files) (sym follows.joint.copies) merged.ready)

    pub commit-leads : tx / 2 ^ 32 ≡ s.rows_opening → Leads f (in_rows (rows_records.Commit tx (next_commit s) (has_links (moved_of t)) (commit_changes t.base t.copy)) ∷ []) (committed s tx t)
    commit-leads present = record {
      later = with_decision f (commit_by s tx t);
      taken = ap (with_rows f) (commit-taken present);
      follows = record {
        joint = state-decided f s follows.joint tx t at (prepared-work f s follows tx t at is) merged.given merged.taken
            (λ p. merged.merges.moved p ∙ ap (λ (cs : List Commit). held_after (moved_of t) p (on (links (tables_after [] cs)) p)) (sym follows.joint.commits))
            ready-there (subst (λ (n : ℕ). AreDrawn n (links (merged_by s t))) (sym follows.joint.rows_opening) merged.drawn) whole-behind;
        uncut = follows.uncut;
      };
    }

  pub decides : AreMerged s → tx / 2 ^ 32 ≡ s.rows_opening → (session : ℕ) → Leads f (decide_writes s tx t (decide s session tx t).0) (decide s session tx t).1
  decides merges present session = by (same_tables t.base t.copy) refl
    where
      conflicts : (o : Option Refusal) → conflict t.base (tables_of s) t.named ≡ o → Leads f (decide_writes s tx t (by_conflict s session tx t o).0) (by_conflict s session tx t o).1
      conflicts (Some why) e = prepared-aborts f s follows tx t at is (maps.remove s.sessions session)
      conflicts None e = commit-leads (merges tx t at (ap is_prepared is) e) present

      by : (b : Bool) → same_tables t.base t.copy ≡ b → Leads f (decide_writes s tx t (cond b (answers.Done, ended s session tx) (by_conflict s session tx t (conflict t.base (tables_of s) t.named))).0) (cond b (answers.Done, ended s session tx) (by_conflict s session tx t (conflict t.base (tables_of s) t.named))).1
      by true e = plain-drops f s follows tx t at is (same-moves t ((tables-decide t.base t.copy).0 e)) (maps.remove s.sessions session)
      by false e = conflicts (conflict t.base (tables_of s) t.named) refl

on-decide : (f : Folds) (s : State) (follows : Follows f s) (tx : ℕ) (t : Txn) → maps.get s.txs tx ≡ Some t → AreMerged s → tx / 2 ^ 32 ≡ s.rows_opening → (session : ℕ) (p : Phase) → t.phase ≡ p
    → Leads f (txn_writes s (steps.Decide session) tx t p (on_txn s (steps.Decide session) tx t p).0) (on_txn s (steps.Decide session) tx t p).1
on-decide f s follows tx t at merges present session phases.Active is = stays f s follows
on-decide f s follows tx t at merges present session phases.Prepared is = decides f s follows tx t at is merges present session
on-decide f s follows tx t at merges present session phases.Decided is = stays f s follows
on-decide f s follows tx t at merges present session phases.Finished is = stays f s follows
on-decide f s follows tx t at merges present session phases.Dropped is = stays f s follows

pub leads-decide : (f : Folds) (s : State) (session : ℕ) → Follows f s → HasSessions s → AreMerged s → Leads f (writes s (steps.Decide session)) (step s (steps.Decide session)).1
unfolding step writes
leads-decide f s session follows has merges = by (txn_of s session) refl
  where
    by : (o : Option (ℕ × Txn)) → txn_of s session ≡ o → Leads f (session_writes s (steps.Decide session) (on_session s (steps.Decide session) o).0 o) (on_session s (steps.Decide session) o).1
    by None e = stays f s follows
    by (Some x) e =
        let found = txn-there s (maps.get s.sessions session) x e in
        on-decide f s follows x.0 x.1 found.0 merges (has.present session x.0 found.1) session x.1.phase refl
