-- Each step keeps that what prepared transactions take has files.
use Rattle.std.proofs.Common.{◌≡◌, ◌≢◌, ⊎_elim, ℕ, List, [], ◌∷◌, ◌++◌, Bool, true, false, not, cond, filter, map, Option, Some, None, is_some, refl, sym, ◌∙◌, ap, subst}
use Rattle.std.proofs.lemmas.Bool.{cases_eq}
use Rattle.std.specs.FinMap as maps
use Rattle.std.specs.FinMap.{get-entries}
use Rattle.std.specs.List.{flat_map, list_any}
use Rattle.dl_base.specs.declared.answer.FileRefusal.{FileRefusal}
use Rattle.dl_base.specs.declared.answer.Refusal.{Refusal}
use Rattle.dl_base.specs.declared.file.File.{File}
use Rattle.dl_base.specs.declared.file.FileCmd.{FileCmd}
use Rattle.dl_base.specs.declared.statement.Stmt.{Stmt}
use Rattle.dl_base.specs.declared.step.Phase.{Phase}
use Rattle.dl_base.specs.declared.step.Phase.TheVariants as phases
use Rattle.dl_base.specs.declared.step.Step.{Step}
use Rattle.dl_base.specs.declared.step.Step.TheVariants as steps
use Rattle.dl_base.specs.declared.step.Target.{Target}
use Rattle.dl_base.specs.declared.value.LinkRow.{LinkRow}
use Rattle.meaning_areas.specs.Commits.{Commit}
use Rattle.meaning_areas.specs.Lists.{Folds}
use Rattle.meaning_areas.proofs.Tables.{some_same}
use Rattle.meaning_files.specs.Files.{Files}
use Rattle.meaning_merge.specs.Restoring.{in_the_way}
use Rattle.meaning_merge.specs.Touching.{In}
use Rattle.meaning_settling.specs.Apart.{ShareNoPath, has_path}
use Rattle.meaning_settling.specs.Keyed.{is_at}
use Rattle.meaning_settling.specs.Settling.{Moved, copies_after}
use Rattle.meaning_settling.proofs.KeyedLaws.{any-append, is_at-self, or-left, or-right}
use Rattle.meaning_settling.proofs.PartLaws.{get-files}
use Rattle.meaning_settling.proofs.SettlingLaws.{file-off}
use Rattle.meaning_tables.specs.Links.{gives, links, takes}
use Rattle.meaning_tables.specs.Tables.{Tables}
use Rattle.meaning_system.specs.Claims.{doomed, files_refusal, no_file, or_else, prepare_refusal, statement}
use Rattle.meaning_system.specs.Commands.{command_refusal, decided_gives, forbidding, prepared_takes}
use Rattle.meaning_system.specs.CoreOf.{HasClaims, work_by}
use Rattle.meaning_system.specs.Following.{Follows, HaveFiles, HaveNumbers}
use Rattle.meaning_system.specs.Machine.{begin, by_refusal, crash_database, drawing, drop_all, finish_all, finish_left, first_session, is_left_in, is_unfinished, lost_to, new_txn, on_txn, resolve, restore, restore_at, restore_found, restore_idle, settled_by, step, target_tables, unfinished, voted, with_phase}
use Rattle.meaning_system.specs.State.{State, Txn, ended, has_links, is_active, is_decided, is_left, is_prepared, kept_in, moved_of, number_of, tables_of, txn_of, with_txn, without_txn}
use Rattle.meaning_system.proofs.Claiming.{none-passes, or-none}
use Rattle.meaning_system.proofs.Commanding.{command-unharmed, in-entries, in-left, in-right, passes}
use Rattle.meaning_system.proofs.Cores.{no-links}
use Rattle.meaning_system.proofs.Kept.{at-archive, at-backup, at-decide, at-rollback, bound-was, drop-all-same, drop-all-was, put-was, statement-seen, with-session}
use Rattle.meaning_system.proofs.Leading.{decided-work, prepared-work, works-are}
use Rattle.meaning_system.proofs.Records.{command-taken}
use Rattle.meaning_system.proofs.Resolved.{both, finish-left-leads, finish-left-was, gone-was, is-decided, is-prepared}

false_true : false ≡ true → ⊥
false_true e = cc

-- where no file is gone, and transactions are the same or fewer
files-fewer : (s later : State) → HaveFiles s → ((p : List ℕ) → is_some (maps.get s.files p) ≡ true → is_some (maps.get later.files p) ≡ true) → ((q : ℕ) (t : Txn) → maps.get later.txs q ≡ Some t → maps.get s.txs q ≡ Some t) → HaveFiles later
files-fewer s later have more was q t at waits l is = more l.path (have q t (was q t at) waits l is)

-- a transaction put, which is not prepared or has files
files-put : (s : State) (tx : ℕ) (t : Txn) → HaveFiles s → (is_prepared t.phase ≡ true → (l : LinkRow) → In l (moved_of t).takes → is_some (maps.get s.files l.path) ≡ true) → HaveFiles (with_txn s tx t)
files-put s tx t have here q x at = put-was s tx t q x at (λ y. is_prepared y.phase ≡ true → (l : LinkRow) → In l (moved_of y).takes → is_some (maps.get s.files l.path) ≡ true) here (λ was. have q x was)

never : {P : Type 0} → false ≡ true → P
never e = absurd (false_true e)

-- a vote: each take has a file

some-file : (path : List ℕ) (o : Option File) → no_file path o ≡ None → is_some o ≡ true
some-file path None e = absurd cc
some-file path (Some f) e = refl

takes-have : (s : State) (ts : List LinkRow) → files_refusal s ts ≡ None → (l : LinkRow) → In l ts → is_some (maps.get s.files l.path) ≡ true
takes-have s [] none l is = absurd is
takes-have s (t ∷ ts) none l is =
    let two = or-none (no_file t.path (maps.get s.files t.path)) (files_refusal s ts) none in
    ⊎_elim
    (λ (e : l ≡ t). ap (λ (x : LinkRow). is_some (maps.get s.files x.path)) e ∙ some-file t.path (maps.get s.files t.path) two.0)
    (λ (later : In l ts). takes-have s ts two.1 l later) is

voted-has : (s : State) (t : Txn) → prepare_refusal s t ≡ None → (l : LinkRow) → In l (moved_of t).takes → is_some (maps.get s.files l.path) ≡ true
voted-has s t none l is = by (has_links (moved_of t)) refl none
  where
    by : (b : Bool) → has_links (moved_of t) ≡ b → cond b (or_else (doomed s t) (files_refusal s (moved_of t).takes)) None ≡ None → is_some (maps.get s.files l.path) ≡ true
    by true has refused = takes-have s (moved_of t).takes (or-none (doomed s t) (files_refusal s (moved_of t).takes) refused).1 l is
    by false empty refused = absurd (subst (λ (ls : List LinkRow). In l ls) (no-links (moved_of t) empty).1 is)

-- settling one that is apart leaves the file

path-in : (l : LinkRow) (ls : List LinkRow) → In l ls → list_any (is_at l.path) (map (λ x. x.path) ls) ≡ true
path-in l [] is = absurd is
path-in l (x ∷ xs) is = ⊎_elim
    (λ (e : l ≡ x). or-left (is_at l.path x.path) (list_any (is_at l.path) (map (λ (y : LinkRow). y.path) xs)) (ap (λ (y : LinkRow). is_at l.path y.path) (sym e) ∙ is_at-self l.path))
    (λ (later : In l xs). or-right (is_at l.path x.path) (list_any (is_at l.path) (map (λ (y : LinkRow). y.path) xs)) (path-in l xs later)) is

takes-path : (m : Moved) (l : LinkRow) → In l m.takes → has_path m l.path ≡ true
takes-path m l is = any-append (is_at l.path) (map (λ x. x.path) m.gives) (map (λ x. x.path) m.takes) ∙ or-right (list_any (is_at l.path) (map (λ x. x.path) m.gives)) _ (path-in l m.takes is)

module _ (f : Folds) (s : State) (follows : Follows f s) (have : HaveFiles s) (tx : ℕ) (t : Txn) (at : maps.get s.txs tx ≡ Some t) (is : t.phase ≡ phases.Decided) where
  off : (q : ℕ) (u : Txn) → maps.get s.txs q ≡ Some u → is_prepared u.phase ≡ true → (l : LinkRow) → In l (moved_of u).takes → has_path (moved_of t) l.path ≡ false
  off q u there waits l among = ⊎_elim
      (λ (e : tx ≡ q). never (sym (ap is_prepared (ap (λ (x : Txn). x.phase) (some_same u t (sym there ∙ ap (maps.get s.txs) (sym e) ∙ at)) ∙ is)) ∙ waits))
      (λ (other : tx ≢ q).
      let apart : ShareNoPath (moved_of t) (moved_of u) = follows.joint.apart tx q other (work_by phases.Decided (moved_of t)) (work_by phases.Prepared (moved_of u))
      (works-are f s follows tx t at (work_by phases.Decided (moved_of t)) (decided-work f s follows tx t at is))
      (works-are f s follows q u there (work_by phases.Prepared (moved_of u)) (prepared-work f s follows q u there (is-prepared u.phase waits))) in
      ⊎_elim
      (λ (lacks : has_path (moved_of t) l.path ≡ false). lacks)
      (λ (lacks : has_path (moved_of u) l.path ≡ false). never (sym lacks ∙ takes-path (moved_of u) l among))
      (apart l.path))
      (cases_eq tx q)

  pub settled-has : (later : State) → later.files ≡ (settled_by s t).files → ((q : ℕ) (u : Txn) → maps.get later.txs q ≡ Some u → maps.get s.txs q ≡ Some u) → HaveFiles later
  settled-has later files was q u there waits l among =
      let before = was q u there in
      ap (λ (fs : Files). is_some (maps.get fs l.path)) files
      ∙ ap is_some (get-files (moved_of t) (kept_in s) l.path ∙ file-off (moved_of t) (copies_after (moved_of t) (kept_in s)) l.path (maps.get s.files l.path) (off q u before waits l among))
      ∙ have q u before waits l among

-- each phase

module _ (f : Folds) (s : State) (follows : Follows f s) (have : HaveFiles s) (tx : ℕ) (t : Txn) (at : maps.get s.txs tx ≡ Some t) where
  on-statement : (session : ℕ) (stmt : Stmt) (p : Phase) → t.phase ≡ p → ((statement s tx t stmt).1.phase ≡ t.phase) → HaveFiles (on_txn s (steps.Statement session stmt) tx t p).1
  on-statement session stmt phases.Active is same = files-put s tx (statement s tx t stmt).1 have (λ waits. never (sym (ap is_prepared (same ∙ is)) ∙ waits))
  on-statement session stmt phases.Prepared is same = have
  on-statement session stmt phases.Decided is same = have
  on-statement session stmt phases.Finished is same = have
  on-statement session stmt phases.Dropped is same = have

  on-prepare : (session : ℕ) (p : Phase) → HaveFiles (on_txn s (steps.Prepare session) tx t p).1
  on-prepare session phases.Active = by (prepare_refusal s t) refl
    where
      by : (o : Option Refusal) → prepare_refusal s t ≡ o → HaveFiles (voted s tx t o).1
      by (Some why) e = have
      by None e = files-put s tx (with_phase t phases.Prepared) have (λ waits. voted-has s t e)
  on-prepare session phases.Prepared = have
  on-prepare session phases.Decided = have
  on-prepare session phases.Finished = have
  on-prepare session phases.Dropped = have

  on-finish : (session : ℕ) (p : Phase) → t.phase ≡ p → HaveFiles (on_txn s (steps.Finish session) tx t p).1
  on-finish session phases.Active is = have
  on-finish session phases.Prepared is = have
  on-finish session phases.Decided is = settled-has f s follows have tx t at is (ended (settled_by s t) session tx) refl (λ q u there. gone-was s tx q u there)
  on-finish session phases.Finished is = have
  on-finish session phases.Dropped is = have

  ends : (session : ℕ) → HaveFiles (ended s session tx)
  ends session = files-fewer s (ended s session tx) have (λ p there. there) (λ q u there. gone-was s tx q u there)

-- a prepared take forbids
take-forbids : (s : State) (q : ℕ) (t : Txn) (l : LinkRow) → maps.get s.txs q ≡ Some t → is_prepared t.phase ≡ true → In l (moved_of t).takes → In l (forbidding s l.path)
take-forbids s q t l at waits among =
    let here : In l (prepared_takes (q, t)) = subst (λ (b : Bool). In l (cond b (moved_of t).takes [])) (sym waits) among in
    passes (λ (x : LinkRow). is_at l.path x.path) l (links (tables_of s) ++ flat_map prepared_takes (maps.entries s.txs) ++ flat_map decided_gives (maps.entries s.txs))
    (in-left l (links (tables_of s) ++ flat_map prepared_takes (maps.entries s.txs)) (flat_map decided_gives (maps.entries s.txs))
    (in-right l (links (tables_of s)) (flat_map prepared_takes (maps.entries s.txs)) (in-entries l prepared_takes q t (λ n. refl) (maps.entries s.txs) (sym (get-entries s.txs q) ∙ at) here))) (is_at-self l.path)

file-has : (s : State) (cmd : FileCmd) → HaveFiles s → HaveFiles (by_refusal s cmd (command_refusal s cmd.user cmd.what)).1
file-has s cmd have = by (command_refusal s cmd.user cmd.what) refl
  where
    some-of : (o : Option File) → is_some o ≡ true → (x : File) × (o ≡ Some x)
    some-of (Some x) e = (x, refl)
    some-of None e = absurd cc

    by : (o : Option FileRefusal) → command_refusal s cmd.user cmd.what ≡ o → HaveFiles (by_refusal s cmd o).1
    by (Some why) e = have
    by None e = λ q t at waits l among.
        let file = some-of (maps.get s.files l.path) (have q t at waits l among) in
        (command-unharmed s cmd.user cmd.what (by_refusal s cmd None).1.files e (command-taken s cmd e) l.path l (take-forbids s q t l at waits among) file.0 file.1).0

-- a restore is let through where no transaction is prepared
restore-has : (s : State) (t : Target) → HaveFiles s → HaveFiles (restore s t (first_session s)).1
restore-has s t have = by (first_session s)
  where
    active-only : unfinished s ≡ None → (q : ℕ) (u : Txn) → maps.get s.txs q ≡ Some u → is_prepared u.phase ≡ true → ⊥
    active-only none q u at waits = of u.phase (none-passes is_unfinished q u (maps.entries s.txs) none (sym (get-entries s.txs q) ∙ at)) waits
      where
        of : (p : Phase) → not (is_active p) ≡ false → is_prepared p ≡ true → ⊥
        of phases.Active a b = false_true b
        of phases.Prepared a b = false_true (sym a)
        of phases.Decided a b = false_true b
        of phases.Finished a b = false_true b
        of phases.Dropped a b = false_true b

    at_target : unfinished s ≡ None → (target : Tables) (o : Option (List ℕ)) → HaveFiles (restore_at s target o).1
    at_target none target (Some path) = have
    at_target none target None = λ q u at waits l among. absurd (active-only none q u at waits)

    found : unfinished s ≡ None → (o : Option Tables) → HaveFiles (restore_found s t o).1
    found none None = have
    found none (Some target) = at_target none target (in_the_way s.files s.copies (gives (tables_of s) target) (filter (λ l. not (lost_to s target l)) (takes (tables_of s) target)))

    idle : (o : Option (ℕ × Txn)) → unfinished s ≡ o → HaveFiles (restore_idle s t o).1
    idle (Some e) is = have
    idle None is = found is (target_tables s t)

    by : (o : Option ℕ) → HaveFiles (restore s t o).1
    by (Some session) = have
    by None = idle (unfinished s) refl

-- RESOLVE settles the decided ones one after another

finish-left-has : (f : Folds) (s : State) (tx : ℕ) → Follows f s → HaveFiles s → (o : Option Txn) → maps.get s.txs tx ≡ o → HaveFiles (finish_left s tx o)
finish-left-has f s tx follows have None at = have
finish-left-has f s tx follows have (Some t) at = by (is_left_in s is_decided (tx, t)) refl
  where
    by : (b : Bool) → is_left_in s is_decided (tx, t) ≡ b → HaveFiles (cond b (without_txn (settled_by s t) tx) s)
    by true is = settled-has f s follows have tx t at (is-decided t.phase (both (is_left s tx) (is_decided t.phase) is).1) (without_txn (settled_by s t) tx) refl (λ q u there. gone-was s tx q u there)
    by false is = have

finish-all-has : (cs : List Commit) (f : Folds) (s : State) → Follows f s → HaveNumbers s → HaveFiles s → HaveFiles (finish_all s cs)
finish-all-has [] f s follows numbers have = have
finish-all-has (c ∷ cs) f s follows numbers have =
    let one = finish-left-leads f s c.tx follows numbers (maps.get s.txs c.tx) refl in
    finish-all-has cs one.later (finish_left s c.tx (maps.get s.txs c.tx)) one.follows (λ q t e. numbers q t (finish-left-was s c.tx (maps.get s.txs c.tx) q t e)) (finish-left-has f s c.tx follows have (maps.get s.txs c.tx) refl)

drop-all-files : (txs : List ℕ) (s : State) → (drop_all s txs).files ≡ s.files
drop-all-files txs s = drop-all-same (λ (x : State). x.files) (λ x tx. refl) txs s

-- THE INVARIANT
pub files-kept : (f : Folds) (s : State) (x : Step) → Follows f s → HaveNumbers s → HasClaims s → HaveFiles s → HaveFiles (step s x).1
unfolding step
files-kept f s (steps.Begin session) follows numbers claims have = by (txn_of s session)
  where
    by : (o : Option (ℕ × Txn)) → HaveFiles (begin s session o).1
    by (Some e) = have
    by None = files-put s (number_of (drawing s)) (new_txn (tables_of s)) have (λ waits. never waits)
files-kept f s (steps.Statement session stmt) follows numbers claims have = with-session HaveFiles s session (steps.Statement session stmt) have
    (λ tx t at of. on-statement f s follows have tx t at session stmt t.phase refl (statement-seen s tx t stmt (claims.seen tx t at)).0)
files-kept f s (steps.Prepare session) follows numbers claims have = with-session HaveFiles s session (steps.Prepare session) have (λ tx t at of. on-prepare f s follows have tx t at session t.phase)
files-kept f s (steps.Decide session) follows numbers claims have = with-session HaveFiles s session (steps.Decide session) have
    (λ tx t at of. at-decide HaveFiles s have tx t session t.phase (ends f s follows have tx t at session) (files-put s tx (with_phase t phases.Decided) have (λ waits. never waits)))
files-kept f s (steps.Finish session) follows numbers claims have = with-session HaveFiles s session (steps.Finish session) have (λ tx t at of. on-finish f s follows have tx t at session t.phase refl)
files-kept f s (steps.Rollback session) follows numbers claims have = with-session HaveFiles s session (steps.Rollback session) have (λ tx t at of. at-rollback HaveFiles s have tx t session t.phase (ends f s follows have tx t at session))
files-kept f s (steps.File cmd) follows numbers claims have = file-has s cmd have
files-kept f s (steps.Archive n) follows numbers claims have = at-archive HaveFiles s have n (λ copies. have)
files-kept f s steps.Backup follows numbers claims have = at-backup HaveFiles s have (λ backups. have)
files-kept f s (steps.Restore t) follows numbers claims have = restore-has s t have
files-kept f s (steps.Tick n) follows numbers claims have = have
files-kept f s steps.CrashManager follows numbers claims have = have
files-kept f s steps.CrashDatabase follows numbers claims have = files-fewer s (crash_database s) have (λ p there. there) (bound-was s)
files-kept f s steps.Resolve follows numbers claims have =
    files-fewer (finish_all s s.commits) (resolve s).1 (finish-all-has s.commits f s follows numbers have)
    (λ p there. ap (λ (fs : Files). is_some (maps.get fs p)) (drop-all-files (maps.keys s.txs) (finish_all s s.commits)) ∙ there)
    (λ q t at. drop-all-was (maps.keys s.txs) (finish_all s s.commits) q t at)
