-- The pieces of a Finish behind each step that leaves its transaction as it is.
use Rattle.std.proofs.Common.{◌≡◌, ◌≢◌, ◌⊎◌, inl, inr, ⊎_elim, ℕ, List, [], ◌∷◌, Bool, true, false, not, cond, filter, Option, Some, None, is_some, refl, sym, ap, subst, ◌∙◌}
use Rattle.std.specs.Cmp.Lexicographic.{nat_list_cmp_total}
use Rattle.std.specs.FinMap as maps
use Rattle.std.specs.FinMap.{get-entries, get-insert}
use Rattle.std.specs.List.{find}
use Rattle.dl_base.specs.declared.answer.FileRefusal.{FileRefusal}
use Rattle.dl_base.specs.declared.file.File.{File}
use Rattle.dl_base.specs.declared.file.FileCmd.{FileCmd}
use Rattle.dl_base.specs.declared.step.Phase.{Phase}
use Rattle.dl_base.specs.declared.step.Phase.TheVariants as phases
use Rattle.dl_base.specs.declared.step.Step.{Step}
use Rattle.dl_base.specs.declared.step.Step.TheVariants as steps
use Rattle.dl_base.specs.declared.step.Target.{Target}
use Rattle.dl_base.specs.declared.value.LinkNo.{LinkNo}
use Rattle.dl_base.specs.declared.value.LinkRow.{LinkRow}
use Rattle.fm_manager.specs.Pieces.{AreOf, Pieces}
use Rattle.fm_pieces.specs.Keeping.{AreThere, HasPieces, left_of}
use Rattle.fm_pieces.proofs.Carrying.{carried, same-change}
use Rattle.fm_pieces.proofs.Commanded.{changes-same, files-there, recovered-same}
use Rattle.fm_pieces.proofs.Guarded.{decided-rests, never-doomed, path-off}
use Rattle.meaning_areas.specs.Commits.{Commit}
use Rattle.meaning_areas.specs.Lists.{Folds}
use Rattle.meaning_areas.proofs.Tables.{not_none, test-same}
use Rattle.meaning_files.specs.Files.{Files}
use Rattle.meaning_history.specs.Sound.{AreSound}
use Rattle.meaning_history.proofs.Claims.{gives-has}
use Rattle.meaning_history.proofs.Steps.{have-fits}
use Rattle.meaning_merge.specs.Restoring.{in_the_way}
use Rattle.meaning_settling.specs.Apart.{has_path}
use Rattle.meaning_settling.specs.Keyed.{is_at}
use Rattle.meaning_settling.specs.Settling.{Copies, Copy, by_give, copies_after, copy_of, first_copy, link_key, numbered}
use Rattle.meaning_settling.proofs.PartLaws.{get-copies, get-files}
use Rattle.meaning_settling.proofs.SettlingLaws.{file-off}
use Rattle.meaning_tables.specs.Links.{gives, takes}
use Rattle.meaning_tables.specs.Tables.{Tables}
use Rattle.meaning_system.specs.Commands.{command_refusal}
use Rattle.meaning_system.specs.Following.{Follows, HaveNumbers}
use Rattle.meaning_system.specs.Machine.{archive, archive_file, archive_on, begin, by_refusal, drop_all, finish_all, finish_left, first_session, is_left_in, is_unfinished, lost_to, on_txn, pending, resolve, restore, restore_at, restore_found, restore_idle, settled_by, step, target_tables, unfinished}
use Rattle.meaning_system.specs.State.{State, Txn, has_links, is_active, is_decided, is_left, kept_in, moved_of, tables_of, txn_of, without_txn}
use Rattle.meaning_system.proofs.Claiming.{none-passes}
use Rattle.meaning_system.proofs.Fitting.{fits-numbers}
use Rattle.meaning_system.proofs.Kept.{at-backup, at-decide, at-prepare, at-rollback, at-statement, drop-all-same, drop-all-was, with-session}
use Rattle.meaning_system.proofs.Resolved.{both, finish-all-was, finish-left-leads, finish-left-was, gone-at}

false_true : false ≡ true → ⊥
false_true e = cc

-- these are the pieces of a transaction over these files and copies, and its paths have files
abbrev HasOver : Files → Copies → Txn → Pieces → Type 0
HasOver files copies t p = AreOf (left_of copies p) (moved_of t) (record { files = files; copies = copies; held = maps.empty }) × AreThere files (moved_of t)

abbrev Has : State → Txn → Pieces → Type 0
Has s t p = HasOver s.files s.copies t p

-- OVER OTHER COPIES, of which none is gone
more-copies : (files : Files) (copies later : Copies) (t : Txn) (p : Pieces) → ((n : List ℕ) → (maps.get later n ≡ maps.get copies n) ⊎ (is_some (maps.get later n) ≡ true)) → HasOver files copies t p → HasOver files later t p
more-copies files copies later t p more has = (
  carried t (record { files = files; copies = copies; held = maps.empty }) (record { files = files; copies = later; held = maps.empty }) p more
      (λ g is recovers. refl)
      (λ q mine. same-change t (record { files = files; copies = copies; held = maps.empty }) (record { files = files; copies = later; held = maps.empty }) q refl)
      has.0,
  has.1,
)

-- FINISH of another transaction

-- a copy that is there stays
grown : (files : Files) (g : Option LinkRow) (c : Option Copy) → (by_give files g c ≡ c) ⊎ (is_some (by_give files g c) ≡ true)
grown files None c = inl refl
grown files (Some g) c = by g.options.recovery c
  where
    made : (o : Option File) → (first_copy None o ≡ None) ⊎ (is_some (first_copy None o) ≡ true)
    made None = inl refl
    made (Some f) = inr refl

    by : (b : Bool) (c : Option Copy) → (cond b (first_copy c (maps.get files g.path)) c ≡ c) ⊎ (is_some (cond b (first_copy c (maps.get files g.path)) c) ≡ true)
    by false c = inl refl
    by true (Some c) = inl refl
    by true None = made (maps.get files g.path)

module _ (f : Folds) (s : State) (follows : Follows f s) (tx : ℕ) (t : Txn) (at : maps.get s.txs tx ≡ Some t) (rests : is_active t.phase ≡ false) (p : Pieces) where
  settled-has : (u : ℕ) (v : Txn) → maps.get s.txs u ≡ Some v → is_decided v.phase ≡ true → tx ≢ u → Has s t p → Has (settled_by s v) t p
  settled-has u v there decided other has = (
    carried t (kept_in s) (kept_in (settled_by s v)) p more
        (λ g is recovers. same g.path (gives-has (moved_of t) g is))
        (λ q mine. same-change t (kept_in s) (kept_in (settled_by s v)) q (same q mine))
        has.0,
    λ q mine. ap is_some (same q mine) ∙ has.1 q mine,
  )
    where
      same : (q : List ℕ) → has_path (moved_of t) q ≡ true → maps.get (settled_by s v).files q ≡ maps.get s.files q
      same q mine =
          get-files (moved_of v) (kept_in s) q
          ∙ file-off (moved_of v) (copies_after (moved_of v) (kept_in s)) q (maps.get s.files q) (path-off f s follows tx t at (never-doomed s t rests) u v other there (never-doomed s v (decided-rests v decided)) q mine)

      more : (n : List ℕ) → (maps.get (settled_by s v).copies n ≡ maps.get s.copies n) ⊎ (is_some (maps.get (settled_by s v).copies n) ≡ true)
      more n = ⊎_elim
          (λ (e : by_give s.files (numbered (moved_of v).gives n) (maps.get s.copies n) ≡ maps.get s.copies n). inl (get-copies (moved_of v) (kept_in s) n ∙ e))
          (λ (e : is_some (by_give s.files (numbered (moved_of v).gives n) (maps.get s.copies n)) ≡ true). inr (ap is_some (get-copies (moved_of v) (kept_in s) n) ∙ e))
          (grown s.files (numbered (moved_of v).gives n) (maps.get s.copies n))

  -- one that is finished is another
  another : (u : ℕ) → maps.get (maps.remove s.txs u) tx ≡ Some t → tx ≢ u
  another u there = λ (e : tx ≡ u). not_none t (maps.get (maps.remove s.txs u) tx) there (gone-at s u tx ∙ ap (λ b. cond b None (maps.get s.txs tx)) (test-same tx u e))

  finish-left-has : (u : ℕ) (o : Option Txn) → maps.get s.txs u ≡ o → maps.get (finish_left s u o).txs tx ≡ Some t → Has s t p → Has (finish_left s u o) t p
  finish-left-has u None is there has = has
  finish-left-has u (Some v) is there has = by (is_left_in s is_decided (u, v)) refl there
    where
      by : (b : Bool) → is_left_in s is_decided (u, v) ≡ b → maps.get (cond b (without_txn (settled_by s v) u) s).txs tx ≡ Some t → Has (cond b (without_txn (settled_by s v) u) s) t p
      by true left later = settled-has u v is (both (is_left s u) (is_decided v.phase) left).1 (another u later) has
      by false left later = has

-- RESOLVE
finish-all-has : (tx : ℕ) (t : Txn) (rests : is_active t.phase ≡ false) (p : Pieces) (cs : List Commit) (f : Folds) (s : State) → Follows f s → HaveNumbers s → maps.get s.txs tx ≡ Some t → maps.get (finish_all s cs).txs tx ≡ Some t → Has s t p → Has (finish_all s cs) t p
finish-all-has tx t rests p [] f s follows numbers at later has = has
finish-all-has tx t rests p (c ∷ cs) f s follows numbers at later has =
    let one = finish-left-leads f s c.tx follows numbers (maps.get s.txs c.tx) refl in
    let between : maps.get (finish_left s c.tx (maps.get s.txs c.tx)).txs tx ≡ Some t = finish-all-was cs (finish_left s c.tx (maps.get s.txs c.tx)) tx t later in
    finish-all-has tx t rests p cs one.later (finish_left s c.tx (maps.get s.txs c.tx)) one.follows (λ q v e. numbers q v (finish-left-was s c.tx (maps.get s.txs c.tx) q v e)) between later
    (finish-left-has f s follows tx t at rests p c.tx (maps.get s.txs c.tx) refl between has)

drop-all-has : (t : Txn) (p : Pieces) (txs : List ℕ) (s : State) → Has s t p → Has (drop_all s txs) t p
drop-all-has t p txs s has =
    subst (λ (files : Files). HasOver files (drop_all s txs).copies t p) (sym (drop-all-same (λ (x : State). x.files) (λ x tx. refl) txs s))
    (subst (λ (copies : Copies). HasOver s.files copies t p) (sym (drop-all-same (λ (x : State). x.copies) (λ x tx. refl) txs s)) has)

-- EACH STEP
module _ (first : ℕ) (f : Folds) (s : State) (sound : AreSound first f s) (tx : ℕ) (t : Txn) (at : maps.get s.txs tx ≡ Some t) (rests : is_active t.phase ≡ false) (has : has_links (moved_of t) ≡ true) (p : Pieces) (are : Has s t p) where
  -- it is as it was, and has its pieces
  abbrev Stays : State → Type 0
  Stays later = maps.get later.txs tx ≡ Some t → Has later t p

  same : Stays s
  same there = are

  begin-has : (session : ℕ) (o : Option (ℕ × Txn)) → Stays (begin s session o).1
  begin-has session (Some e) = same
  begin-has session None = λ there. are

  on-finish : (session u : ℕ) (v : Txn) → maps.get s.txs u ≡ Some v → (x : Phase) → v.phase ≡ x → Stays (on_txn s (steps.Finish session) u v x).1
  on-finish session u v is phases.Active e = same
  on-finish session u v is phases.Prepared e = same
  on-finish session u v is phases.Decided e = λ there. settled-has f s sound.follows tx t at rests p u v is (ap is_decided e) (another f s sound.follows tx t at rests p u there) are
  on-finish session u v is phases.Finished e = same
  on-finish session u v is phases.Dropped e = same

  file-has : (cmd : FileCmd) (o : Option FileRefusal) → command_refusal s cmd.user cmd.what ≡ o → Stays (by_refusal s cmd o).1
  file-has cmd (Some why) e = same
  file-has cmd None e = λ there. (
    carried t (kept_in s) (kept_in (by_refusal s cmd None).1) p (λ n. inl refl)
        (recovered-same first f s sound tx t at rests has are.1 cmd e) (changes-same first f s sound tx t at rests has are.1 cmd e) are.0,
    files-there first f s sound tx t at rests has are.1 cmd e,
  )

  archive-has : (n : LinkNo) → Stays (archive s n).1
  archive-has n = by (find (λ l. is_at (link_key n) (link_key l.link)) (pending s))
    where
      stored : (x : File) (q : List ℕ) → (maps.get (maps.insert s.copies (link_key n) (copy_of x)) q ≡ maps.get s.copies q) ⊎ (is_some (maps.get (maps.insert s.copies (link_key n) (copy_of x)) q) ≡ true)
      stored x q = at_key (is_at q (link_key n)) refl
        where
          at_key : (b : Bool) → is_at q (link_key n) ≡ b → (maps.get (maps.insert s.copies (link_key n) (copy_of x)) q ≡ maps.get s.copies q) ⊎ (is_some (maps.get (maps.insert s.copies (link_key n) (copy_of x)) q) ≡ true)
          at_key true e = inr (ap is_some (get-insert nat_list_cmp_total s.copies (link_key n) (copy_of x) q ∙ ap (λ b. cond b (Some (copy_of x)) (maps.get s.copies q)) e))
          at_key false e = inl (get-insert nat_list_cmp_total s.copies (link_key n) (copy_of x) q ∙ ap (λ b. cond b (Some (copy_of x)) (maps.get s.copies q)) e)

      with_file : (o : Option File) → Stays (archive_file s n o).1
      with_file None = same
      with_file (Some x) = λ there. more-copies s.files s.copies (maps.insert s.copies (link_key n) (copy_of x)) t p (stored x) are

      by : (o : Option LinkRow) → Stays (archive_on s n o).1
      by None = same
      by (Some l) = with_file (maps.get s.files l.path)

  -- a restore is let through where no transaction is prepared or decided
  restore-has : (target : Target) → Stays (restore s target (first_session s)).1
  restore-has target = by (first_session s)
    where
      none : unfinished s ≡ None → ⊥
      none e = false_true (sym (none-passes is_unfinished tx t (maps.entries s.txs) e (sym (get-entries s.txs tx) ∙ at)) ∙ ap not rests)

      at_target : unfinished s ≡ None → (tables : Tables) (o : Option (List ℕ)) → Stays (restore_at s tables o).1
      at_target e tables (Some path) = same
      at_target e tables None = absurd (none e)

      found : unfinished s ≡ None → (o : Option Tables) → Stays (restore_found s target o).1
      found e None = same
      found e (Some tables) = at_target e tables (in_the_way s.files s.copies (gives (tables_of s) tables) (filter (λ l. not (lost_to s tables l)) (takes (tables_of s) tables)))

      idle : (o : Option (ℕ × Txn)) → unfinished s ≡ o → Stays (restore_idle s target o).1
      idle (Some x) e = same
      idle None e = found e (target_tables s target)

      by : (o : Option ℕ) → Stays (restore s target o).1
      by (Some session) = same
      by None = idle (unfinished s) refl

  resolve-has : Stays (resolve s).1
  resolve-has there = drop-all-has t p (maps.keys s.txs) (finish_all s s.commits)
      (finish-all-has tx t rests p s.commits f s sound.follows (fits-numbers s (have-fits first s sound.history)) at (drop-all-was (maps.keys s.txs) (finish_all s s.commits) tx t there) are)

  step-has : (x : Step) → Stays (step s x).1
  unfolding step
  step-has (steps.Begin session) = begin-has session (txn_of s session)
  step-has (steps.Statement session stmt) = with-session Stays s session (steps.Statement session stmt) same (λ u v is of. at-statement Stays s same u v session stmt v.phase (λ there. are))
  step-has (steps.Prepare session) = with-session Stays s session (steps.Prepare session) same (λ u v is of. at-prepare Stays s same u v session v.phase (λ there. are))
  step-has (steps.Decide session) = with-session Stays s session (steps.Decide session) same (λ u v is of. at-decide Stays s same u v session v.phase (λ there. are) (λ there. are))
  step-has (steps.Finish session) = with-session Stays s session (steps.Finish session) same (λ u v is of. on-finish session u v is v.phase refl)
  step-has (steps.Rollback session) = with-session Stays s session (steps.Rollback session) same (λ u v is of. at-rollback Stays s same u v session v.phase (λ there. are))
  step-has (steps.File cmd) = file-has cmd (command_refusal s cmd.user cmd.what) refl
  step-has (steps.Archive n) = archive-has n
  step-has steps.Backup = at-backup Stays s same (λ backups there. are)
  step-has (steps.Restore target) = restore-has target
  step-has (steps.Tick n) = λ there. are
  step-has steps.CrashManager = λ there. are
  step-has steps.CrashDatabase = λ there. are
  step-has steps.Resolve = resolve-has

-- THE LAW
pub pieces-stay : (first : ℕ) (f : Folds) (s : State) (x : Step) (tx : ℕ) (t : Txn) (p : Option Pieces) → AreSound first f s → maps.get s.txs tx ≡ Some t → is_active t.phase ≡ false
    → maps.get (step s x).1.txs tx ≡ Some t → HasPieces s tx t p → HasPieces (step s x).1 tx t p
pieces-stay first f s x tx t None sound at rests later has = has
pieces-stay first f s x tx t (Some p) sound at rests later has =
    let stay = step-has first f s sound tx t at rests has.0 p (has.2, has.3) x later in
    (has.0, has.1, stay.0, stay.1)
