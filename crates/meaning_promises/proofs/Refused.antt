-- What is refused changes nothing, but that a statement names tables, and that a Conflict ends its transaction.
use Rattle.std.proofs.Common.{◌≡◌, ℕ, ◌==◌, List, [], ◌∷◌, Bool, true, false, not, cond, filter, Result, Ok, Err, Option, Some, None, refl, sym, ◌∙◌, ap, subst}
use Rattle.std.specs.FinMap as maps
use Rattle.std.specs.List.{find}
use Rattle.dl_base.specs.Answers.{is_refused}
use Rattle.dl_base.specs.declared.answer.Answer.{Answer}
use Rattle.dl_base.specs.declared.answer.Answer.TheVariants as answers
use Rattle.dl_base.specs.declared.answer.FileRefusal.{FileRefusal}
use Rattle.dl_base.specs.declared.answer.Refusal.{Refusal}
use Rattle.dl_base.specs.declared.answer.Refusal.TheVariants as reasons
use Rattle.dl_base.specs.declared.file.File.{File}
use Rattle.dl_base.specs.declared.file.FileChange.{FileChange}
use Rattle.dl_base.specs.declared.file.FileCmd.{FileCmd}
use Rattle.dl_base.specs.declared.file.FileWhat.{FileWhat}
use Rattle.dl_base.specs.declared.file.FileWhat.TheVariants as whats
use Rattle.dl_base.specs.declared.sql_fault.SqlFault.{SqlFault}
use Rattle.dl_base.specs.declared.statement.Stmt.{Stmt}
use Rattle.dl_base.specs.declared.statement.Stmt.TheVariants as statements
use Rattle.dl_base.specs.declared.step.Phase.{Phase}
use Rattle.dl_base.specs.declared.step.Phase.TheVariants as phases
use Rattle.dl_base.specs.declared.step.Step.{Step}
use Rattle.dl_base.specs.declared.step.Step.TheVariants as steps
use Rattle.dl_base.specs.declared.step.Target.{Target}
use Rattle.dl_base.specs.declared.value.LinkNo.{LinkNo}
use Rattle.dl_base.specs.declared.value.LinkRow.{LinkRow}
use Rattle.dl_base.specs.declared.value.Row.{Row}
use Rattle.meaning_areas.proofs.Tables.{some_same}
use Rattle.meaning_areas.specs.Lists.{Written}
use Rattle.meaning_areas.specs.Same.{same_tables}
use Rattle.meaning_files.specs.Commands.{bytes_of, command_answer, command_changes}
use Rattle.meaning_merge.specs.Restoring.{in_the_way}
use Rattle.meaning_settling.proofs.KeyedLaws.{false_true}
use Rattle.meaning_settling.specs.Keyed.{is_at}
use Rattle.meaning_settling.specs.Settling.{link_key}
use Rattle.meaning_statements.specs.Changing.{Changed, change}
use Rattle.meaning_statements.specs.Selecting.{select}
use Rattle.meaning_tables.specs.Links.{gives, takes}
use Rattle.meaning_tables.specs.Tables.{Tables}
use Rattle.meaning_system.proofs.Kept.{made_by}
use Rattle.meaning_system.specs.Claims.{by_evaluated, claim_refusal, claimed, conflict, prepare_refusal, same_moved, version_of}
use Rattle.meaning_system.specs.Commands.{command_refusal}
use Rattle.meaning_system.specs.Machine.{archive_file, archive_on, back_up, back_up_at, begin, by_conflict, by_refusal, drawing, first_session, lost_to, next_commit, on_session, on_txn, pending, resolve, restore, restore_at, restore_found, restore_idle, step, target_tables, unfinished, voted}
use Rattle.meaning_system.specs.Sql.{Evaluated, after_change, after_select, evaluated}
use Rattle.meaning_system.specs.State.{State, Txn, context_of, ended, is_active, is_prepared, moved_of, number_of, tables_of, txn_of, with_txn}
use Rattle.meaning_system.specs.Writes.{aborted, archive_writes, backup_writes, decide_writes, file_writes, restore_writes, session_writes, txn_writes, writes}
use Rattle.meaning_promises.specs.Promises.{IsConflict, has_phase, may_change, naming}
use Rattle.meaning_promises.proofs.Promised.{none_some, vote-refused}

-- an answer that is no refusal
told : (a : Answer) (why : Refusal) → is_refused a ≡ false → a ≡ answers.Refused why → ⊥
told a why other e = false_true (sym other ∙ ap is_refused e)

same-why : (a b : Refusal) → answers.Refused a ≡ answers.Refused b → a ≡ b
same-why a b e = cc

abbrev Leaves : State → Answer × State → List Written → Type 0
Leaves s r xs = (r.1 ≡ s) × (xs ≡ [])

-- a command that is not refused
accepted : (s : State) (what : FileWhat) → is_refused (command_answer s.files what) ≡ false
accepted s (whats.Create path bytes) = refl
accepted s (whats.Write path bytes) = refl
accepted s (whats.Delete path) = refl
accepted s (whats.Rename path to) = refl
accepted s (whats.Chmod path on) = refl
accepted s (whats.Read path token) = by (maps.get s.files path)
  where
    by : (o : Option File) → is_refused (bytes_of o) ≡ false
    by None = refl
    by (Some x) = refl
accepted s whats.List = refl

-- ALL OTHER STEPS

module _ (s : State) (why : Refusal) where
  begins : (session : ℕ) (o : Option (ℕ × Txn)) → (begin s session o).0 ≡ answers.Refused why → (begin s session o).1 ≡ s
  begins session (Some x) e = refl
  begins session None e = absurd (told (answers.Begun (number_of (drawing s))) why refl e)

  -- those of sessions

  idle-stated : (session : ℕ) (stmt : Stmt) (tx : ℕ) (t : Txn) (p : Phase) → is_active p ≡ false → (on_txn s (steps.Statement session stmt) tx t p).1 ≡ s
  idle-stated session stmt tx t phases.Active idle = absurd (false_true (sym idle))
  idle-stated session stmt tx t phases.Prepared idle = refl
  idle-stated session stmt tx t phases.Decided idle = refl
  idle-stated session stmt tx t phases.Finished idle = refl
  idle-stated session stmt tx t phases.Dropped idle = refl

  states : (session : ℕ) (stmt : Stmt) (o : Option (ℕ × Txn)) → has_phase is_active o ≡ false → (on_session s (steps.Statement session stmt) o).1 ≡ s
  states session stmt None idle = refl
  states session stmt (Some x) idle = idle-stated session stmt x.0 x.1 x.1.phase idle

  prepared-not : (session tx : ℕ) (t : Txn) (p : Phase) → (on_txn s (steps.Prepare session) tx t p).0 ≡ answers.Refused why → (on_txn s (steps.Prepare session) tx t p).1 ≡ s
  prepared-not session tx t phases.Active e = by (prepare_refusal s t) e
    where
      by : (o : Option Refusal) → (voted s tx t o).0 ≡ answers.Refused why → (voted s tx t o).1 ≡ s
      by (Some other) e = refl
      by None e = absurd (told answers.Done why refl e)
  prepared-not session tx t phases.Prepared e = refl
  prepared-not session tx t phases.Decided e = refl
  prepared-not session tx t phases.Finished e = refl
  prepared-not session tx t phases.Dropped e = refl

  prepares : (session : ℕ) (o : Option (ℕ × Txn)) → (on_session s (steps.Prepare session) o).0 ≡ answers.Refused why → (on_session s (steps.Prepare session) o).1 ≡ s
  prepares session None e = refl
  prepares session (Some x) e = prepared-not session x.0 x.1 x.1.phase e

  abbrev TxnLeaves : Step → ℕ → Txn → Phase → Type 0
  TxnLeaves asked tx t p = Leaves s (on_txn s asked tx t p) (txn_writes s asked tx t p (on_txn s asked tx t p).0)

  abbrev SessionLeaves : Step → Option (ℕ × Txn) → Type 0
  SessionLeaves asked o = Leaves s (on_session s asked o) (session_writes s asked (on_session s asked o).0 o)

  decided-not : (session tx : ℕ) (t : Txn) (p : Phase) → is_prepared p ≡ false → TxnLeaves (steps.Decide session) tx t p
  decided-not session tx t phases.Active idle = (refl, refl)
  decided-not session tx t phases.Prepared idle = absurd (false_true (sym idle))
  decided-not session tx t phases.Decided idle = (refl, refl)
  decided-not session tx t phases.Finished idle = (refl, refl)
  decided-not session tx t phases.Dropped idle = (refl, refl)

  decides : (session : ℕ) (o : Option (ℕ × Txn)) → has_phase is_prepared o ≡ false → SessionLeaves (steps.Decide session) o
  decides session None idle = (refl, refl)
  decides session (Some x) idle = decided-not session x.0 x.1 x.1.phase idle

  finished-not : (session tx : ℕ) (t : Txn) (p : Phase) → (on_txn s (steps.Finish session) tx t p).0 ≡ answers.Refused why → TxnLeaves (steps.Finish session) tx t p
  finished-not session tx t phases.Active e = (refl, refl)
  finished-not session tx t phases.Prepared e = (refl, refl)
  finished-not session tx t phases.Decided e = absurd (told answers.Done why refl e)
  finished-not session tx t phases.Finished e = (refl, refl)
  finished-not session tx t phases.Dropped e = (refl, refl)

  finishes : (session : ℕ) (o : Option (ℕ × Txn)) → (on_session s (steps.Finish session) o).0 ≡ answers.Refused why → SessionLeaves (steps.Finish session) o
  finishes session None e = (refl, refl)
  finishes session (Some x) e = finished-not session x.0 x.1 x.1.phase e

  dropped-not : (session tx : ℕ) (t : Txn) (p : Phase) → (on_txn s (steps.Rollback session) tx t p).0 ≡ answers.Refused why → TxnLeaves (steps.Rollback session) tx t p
  dropped-not session tx t phases.Active e = absurd (told answers.Done why refl e)
  dropped-not session tx t phases.Prepared e = absurd (told answers.Done why refl e)
  dropped-not session tx t phases.Decided e = (refl, refl)
  dropped-not session tx t phases.Finished e = (refl, refl)
  dropped-not session tx t phases.Dropped e = (refl, refl)

  drops : (session : ℕ) (o : Option (ℕ × Txn)) → (on_session s (steps.Rollback session) o).0 ≡ answers.Refused why → SessionLeaves (steps.Rollback session) o
  drops session None e = (refl, refl)
  drops session (Some x) e = dropped-not session x.0 x.1 x.1.phase e

  -- those of files, and of the whole system

  commands : (cmd : FileCmd) (o : Option FileRefusal) (cs : List FileChange) → (by_refusal s cmd o).0 ≡ answers.Refused why → Leaves s (by_refusal s cmd o) (file_writes s cmd (by_refusal s cmd o).0 cs)
  commands cmd (Some other) [] e = (refl, refl)
  commands cmd (Some other) (c ∷ cs) e = (refl, refl)
  commands cmd None cs e = absurd (told (command_answer s.files cmd.what) why (accepted s cmd.what) e)

  archives : (n : LinkNo) (o : Option LinkRow) → (archive_on s n o).0 ≡ answers.Refused why → (archive_on s n o).1 ≡ s
  archives n None e = refl
  archives n (Some l) e = by (maps.get s.files l.path) e
    where
      by : (o : Option File) → (archive_file s n o).0 ≡ answers.Refused why → (archive_file s n o).1 ≡ s
      by None e = refl
      by (Some x) e = absurd (told (answers.Archived 1) why refl e)

  backs-up : (o : Option (ℕ × Txn)) → (back_up s o).0 ≡ answers.Refused why → (back_up s o).1 ≡ s
  backs-up (Some x) e = refl
  backs-up None e = by (pending s) e
    where
      by : (ls : List LinkRow) → (back_up_at s ls).0 ≡ answers.Refused why → (back_up_at s ls).1 ≡ s
      by (l ∷ ls) e = refl
      by [] e = absurd (told (back_up_at s []).0 why refl e)

  restores : (t : Target) (o : Option ℕ) → (restore s t o).0 ≡ answers.Refused why → (restore s t o).1 ≡ s
  restores t (Some session) e = refl
  restores t None e = idle (unfinished s) e
    where
      at : (target : Tables) (o : Option (List ℕ)) → (restore_at s target o).0 ≡ answers.Refused why → (restore_at s target o).1 ≡ s
      at target (Some path) e = refl
      at target None e = absurd (told (restore_at s target None).0 why refl e)

      found : (o : Option Tables) → (restore_found s t o).0 ≡ answers.Refused why → (restore_found s t o).1 ≡ s
      found None e = refl
      found (Some target) e = at target (in_the_way s.files s.copies (gives (tables_of s) target) (filter (λ l. not (lost_to s target l)) (takes (tables_of s) target))) e

      idle : (o : Option (ℕ × Txn)) → (restore_idle s t o).0 ≡ answers.Refused why → (restore_idle s t o).1 ≡ s
      idle (Some x) e = refl
      idle None e = found (target_tables s t) e

pub refused-leaves : (s : State) (x : Step) (why : Refusal) → (step s x).0 ≡ answers.Refused why → may_change s x ≡ false → ((step s x).1 ≡ s) × (writes s x ≡ [])
unfolding step writes
refused-leaves s (steps.Begin session) why e idle = (begins s why session (txn_of s session) e, refl)
refused-leaves s (steps.Statement session stmt) why e idle = (states s why session stmt (txn_of s session) idle, refl)
refused-leaves s (steps.Prepare session) why e idle = (prepares s why session (txn_of s session) e, vote-refused s session why e)
refused-leaves s (steps.Decide session) why e idle = decides s why session (txn_of s session) idle
refused-leaves s (steps.Finish session) why e idle = finishes s why session (txn_of s session) e
refused-leaves s (steps.Rollback session) why e idle = drops s why session (txn_of s session) e
refused-leaves s (steps.File cmd) why e idle = commands s why cmd (command_refusal s cmd.user cmd.what) (command_changes s.files cmd.user cmd.what) e
refused-leaves s (steps.Archive n) why e idle = (archives s why n (find (λ l. is_at (link_key n) (link_key l.link)) (pending s)) e, ap (λ (a : Answer). archive_writes s n a) e)
refused-leaves s steps.Backup why e idle = (backs-up s why (unfinished s) e, ap (λ (a : Answer). backup_writes s a) e)
refused-leaves s (steps.Restore t) why e idle = (restores s why t (first_session s) e, ap (λ (a : Answer). restore_writes s (target_tables s t) a) e)
refused-leaves s (steps.Tick n) why e idle = absurd (told answers.Done why refl e)
refused-leaves s steps.CrashManager why e idle = absurd (told answers.Done why refl e)
refused-leaves s steps.CrashDatabase why e idle = absurd (told answers.Done why refl e)
refused-leaves s steps.Resolve why e idle = absurd (told (resolve s).0 why refl e)

-- A STATEMENT of an active transaction

-- what is evaluated is answered with a refusal just where it is refused
abbrev Agrees : Evaluated → Type 0
Agrees e = is_refused e.answer ≡ e.refused

changes-agree : (tables : Tables) (k : ℕ) (defines : Bool) (r : Result Changed SqlFault) → Agrees (after_change tables defines k r)
changes-agree tables k true (Ok made) = refl
changes-agree tables k false (Ok made) = refl
changes-agree tables k defines (Err fault) = refl

rows-agree : (tables : Tables) (k : ℕ) (r : Result (List Row) SqlFault) → Agrees (after_select tables k r)
rows-agree tables k (Ok rows) = refl
rows-agree tables k (Err fault) = refl

module _ (s : State) (tx : ℕ) (tables : Tables) (k : ℕ) where
  agrees : (stmt : Stmt) → Agrees (evaluated tables stmt (context_of s tx) k)
  unfolding evaluated
  agrees (statements.Select q) = rows-agree tables k (select tables q (context_of s tx))
  agrees (statements.CreateTable t cs) = changes-agree tables k true (change tables (statements.CreateTable t cs) (context_of s tx) k)
  agrees (statements.DropTable t) = changes-agree tables k true (change tables (statements.DropTable t) (context_of s tx) k)
  agrees (statements.Insert t cs vs) = changes-agree tables k false (change tables (statements.Insert t cs vs) (context_of s tx) k)
  agrees (statements.Update t cs c) = changes-agree tables k false (change tables (statements.Update t cs c) (context_of s tx) k)
  agrees (statements.Delete t c) = changes-agree tables k false (change tables (statements.Delete t c) (context_of s tx) k)
  agrees statements.Begin = changes-agree tables k false (change tables statements.Begin (context_of s tx) k)
  agrees statements.Commit = changes-agree tables k false (change tables statements.Commit (context_of s tx) k)
  agrees statements.Rollback = changes-agree tables k false (change tables statements.Rollback (context_of s tx) k)

module _ (s : State) (tx : ℕ) (t : Txn) (why : Refusal) where
  by-refused : (e : Evaluated) → Agrees e → (by_evaluated s tx t e).0 ≡ answers.Refused why → (by_evaluated s tx t e).1 ≡ t
  by-refused e agree is = by e.refused (same_moved (moved_of t) (moved_of (made_by t e))) refl is
    where
      claim : (o : Option Refusal) → e.refused ≡ false → (claimed s e.answer t (made_by t e) o).0 ≡ answers.Refused why → (claimed s e.answer t (made_by t e) o).1 ≡ t
      claim (Some other) fine is = refl
      claim None fine is = absurd (told e.answer why (agree ∙ fine) is)

      by : (r m : Bool) → e.refused ≡ r → (cond r (e.answer, t) (cond m (e.answer, made_by t e) (claimed s e.answer t (made_by t e) (claim_refusal s tx (made_by t e))))).0 ≡ answers.Refused why
          → (cond r (e.answer, t) (cond m (e.answer, made_by t e) (claimed s e.answer t (made_by t e) (claim_refusal s tx (made_by t e))))).1 ≡ t
      by true m fine is = refl
      by false true fine is = absurd (told e.answer why (agree ∙ fine) is)
      by false false fine is = claim (claim_refusal s tx (made_by t e)) fine is

module _ (s : State) (session tx : ℕ) (t : Txn) (stmt : Stmt) (why : Refusal) where
  stated-refused : (p : Phase) → is_active p ≡ true → (on_txn s (steps.Statement session stmt) tx t p).0 ≡ answers.Refused why → (on_txn s (steps.Statement session stmt) tx t p).1 ≡ with_txn s tx (naming t stmt)
  stated-refused phases.Active active e = ap (λ (x : Txn). with_txn s tx x) (by-refused s tx (naming t stmt) why (evaluated t.copy stmt (context_of s tx) t.next) (agrees s tx t.copy t.next stmt) e)
  stated-refused phases.Prepared active e = absurd (false_true active)
  stated-refused phases.Decided active e = absurd (false_true active)
  stated-refused phases.Finished active e = absurd (false_true active)
  stated-refused phases.Dropped active e = absurd (false_true active)

  pub statement-refused : txn_of s session ≡ Some (tx, t) → is_active t.phase ≡ true → (step s (steps.Statement session stmt)).0 ≡ answers.Refused why
      → ((step s (steps.Statement session stmt)).1 ≡ with_txn s tx (naming t stmt)) × (writes s (steps.Statement session stmt) ≡ [])
  unfolding step writes
  statement-refused whose active e =
      (subst (λ (o : Option (ℕ × Txn)). (on_session s (steps.Statement session stmt) o).0 ≡ answers.Refused why → (on_session s (steps.Statement session stmt) o).1 ≡ with_txn s tx (naming t stmt)) (sym whose) (stated-refused t.phase active) e, refl)

-- A DECIDE of a prepared one

module _ (base now : Tables) (why : Refusal) where
  abbrev Differs : Type 0
  Differs = (name : List ℕ) × (why ≡ reasons.Conflict name (version_of base name) (version_of now name))

  conflict-at : (n : List ℕ) (o : Option Refusal) → (o ≡ Some why → Differs) → (b : Bool) → cond b o (Some (reasons.Conflict n (version_of base n) (version_of now n))) ≡ Some why → Differs
  conflict-at n o later true e = later e
  conflict-at n o later false e = (n, sym (some_same (reasons.Conflict n (version_of base n) (version_of now n)) why e))

  conflict-is : (names : List (List ℕ)) → conflict base now names ≡ Some why → Differs
  conflict-is [] e = absurd (none_some why e)
  conflict-is (n ∷ ns) e = conflict-at n (conflict base now ns) (conflict-is ns) (version_of base n == version_of now n) e

module _ (s : State) (session tx : ℕ) (t : Txn) (why : Refusal) where
  abbrev Ends : Answer × State → List Written → Type 0
  Ends r xs = IsConflict s t why × (r.1 ≡ ended s session tx) × (xs ≡ aborted tx (moved_of t))

  refused-decide : (p : Phase) → is_prepared p ≡ true → (on_txn s (steps.Decide session) tx t p).0 ≡ answers.Refused why
      → Ends (on_txn s (steps.Decide session) tx t p) (txn_writes s (steps.Decide session) tx t p (on_txn s (steps.Decide session) tx t p).0)
  refused-decide phases.Active prepared e = absurd (false_true prepared)
  refused-decide phases.Prepared prepared e = let is = by (same_tables t.base t.copy) e in (is.0, is.1, ap (λ (a : Answer). decide_writes s tx t a) e)
    where
      conflicts : (o : Option Refusal) → conflict t.base (tables_of s) t.named ≡ o → (by_conflict s session tx t o).0 ≡ answers.Refused why → IsConflict s t why × ((by_conflict s session tx t o).1 ≡ ended s session tx)
      conflicts (Some other) is e = (conflict-is t.base (tables_of s) why t.named (is ∙ ap (λ (w : Refusal). Some w) (same-why other why e)), refl)
      conflicts None is e = absurd (told (answers.Committed (next_commit s)) why refl e)

      by : (b : Bool) → (cond b (answers.Done, ended s session tx) (by_conflict s session tx t (conflict t.base (tables_of s) t.named))).0 ≡ answers.Refused why
          → IsConflict s t why × ((cond b (answers.Done, ended s session tx) (by_conflict s session tx t (conflict t.base (tables_of s) t.named))).1 ≡ ended s session tx)
      by true e = absurd (told answers.Done why refl e)
      by false e = conflicts (conflict t.base (tables_of s) t.named) refl e
  refused-decide phases.Decided prepared e = absurd (false_true prepared)
  refused-decide phases.Finished prepared e = absurd (false_true prepared)
  refused-decide phases.Dropped prepared e = absurd (false_true prepared)

  pub decide-refused : txn_of s session ≡ Some (tx, t) → is_prepared t.phase ≡ true → (step s (steps.Decide session)).0 ≡ answers.Refused why → Ends (step s (steps.Decide session)) (writes s (steps.Decide session))
  unfolding step writes
  decide-refused whose prepared e =
      subst (λ (o : Option (ℕ × Txn)). (on_session s (steps.Decide session) o).0 ≡ answers.Refused why → Ends (on_session s (steps.Decide session) o) (session_writes s (steps.Decide session) (on_session s (steps.Decide session) o).0 o)) (sym whose) (refused-decide t.phase prepared) e
