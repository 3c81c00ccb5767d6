-- Each step keeps that what the transactions of its state have said can be told again.
use Rattle.std.proofs.Common.{◌≡◌, ◌≢◌, ⊎_elim, ℕ, ◌+◌, ◌*◌, ◌^◌, ◌==◌, ◌&&◌, ◌<◌, ◌≤◌, List, [], ◌∷◌, ◌++◌, Bool, true, false, cond, length, Option, Some, None, refl, sym, ◌∙◌, ap, subst, arith}
use Rattle.std.proofs.lemmas.Bool.{cases_eq}
use Rattle.std.specs.FinMap as maps
use Rattle.std.specs.FinMap.{get-empty}
use Rattle.std.specs.Ordering.{nat_cmp}
use Rattle.dl_base.specs.declared.statement.Stmt.{Stmt}
use Rattle.dl_base.specs.declared.step.Phase.{Phase}
use Rattle.dl_base.specs.declared.step.Phase.TheVariants as phases
use Rattle.dl_base.specs.declared.step.Settings.{Settings}
use Rattle.dl_base.specs.declared.step.Step.{Step}
use Rattle.dl_base.specs.declared.step.Step.TheVariants as steps
use Rattle.meaning_areas.specs.Commits.{Commit}
use Rattle.meaning_areas.specs.Stands.{Stored, past}
use Rattle.meaning_areas.proofs.Tables.{get-here, get-there, some_same, test-other, test-same}
use Rattle.meaning_merge.specs.History.{IsHistory}
use Rattle.meaning_merge.proofs.Histories.{not-zero, past-last}
use Rattle.meaning_merge.proofs.Keeping.{each-map}
use Rattle.meaning_tables.specs.Tables.{Tables}
use Rattle.meaning_system.specs.Claims.{statement}
use Rattle.meaning_system.specs.Following.{HasSessions}
use Rattle.meaning_system.specs.Machine.{begin, committed, crash_database, drawing, finish_all, new_txn, on_session, on_txn, resolve, settled_by, start, step, with_phase}
use Rattle.meaning_system.specs.State.{State, Txn, ended, is_active, is_decided, number_of, tables_of, txn_of, with_txn}
use Rattle.meaning_system.proofs.Kept.{at-archive, at-backup, at-decide, at-file, at-finish, at-prepare, at-restore, at-rollback, bound-was, drop-all-was, put-was, resolve-same, with-session}
use Rattle.meaning_system.proofs.Leading.{txn-there}
use Rattle.meaning_system.proofs.Resolved.{finish-all-was, gone-was}
use Rattle.meaning_system.proofs.Stepping.{next-number}
use Rattle.meaning_history.specs.Reached.{HasHistory}
use Rattle.meaning_serial.specs.Serial.{Said, said_by, said_in}
use Rattle.meaning_serial.proofs.Deeds.{none_some}
use Rattle.meaning_serial.proofs.Replaying.{AreOld, replayed-first}
use Rattle.meaning_serial.proofs.Saying.{Replayed, said-more, saying}

-- WHAT TRANSACTIONS HAVE SAID, by their numbers: it can be told again, and no number that is still to be drawn has said anything
pub record AreReplayed (s : State) (log : ℕ → List Said) : Type 0 where
  pub replayed : (tx : ℕ) (t : Txn) → maps.get s.txs tx ≡ Some t → Replayed t (log tx)
  pub fresh : (tx : ℕ) → number_of s < tx → log tx ≡ []

same-le : (n : ℕ) → n ≤ n
same-le n = omega arith

equal-le : (m n : ℕ) → n ≡ m → m ≤ n
equal-le m n same = omega (arith, same)

-- no other transactions, and no number taken back
fewer : (s later : State) (log : ℕ → List Said) → AreReplayed s log → number_of s ≤ number_of later → ((q : ℕ) (t : Txn) → maps.get later.txs q ≡ Some t → maps.get s.txs q ≡ Some t) → AreReplayed later log
fewer s later log are le was = record {
  replayed = λ q t at. are.replayed q t (was q t at);
  fresh = λ q lt. are.fresh q (omega (arith, le, lt));
}

-- one transaction put
put : (s : State) (tx : ℕ) (t : Txn) (log : ℕ → List Said) → AreReplayed s log → Replayed t (log tx) → AreReplayed (with_txn s tx t) log
put s tx t log are one = record {
  replayed = λ q x at. ⊎_elim
      (λ (e : q ≡ tx). subst (λ (n : ℕ). Replayed x (log n)) (sym e) (put-was s tx t q x at (λ y. Replayed y (log tx)) one (λ was. subst (λ (n : ℕ). Replayed x (log n)) e (are.replayed q x was))))
      (λ (other : q ≢ tx). are.replayed q x (sym (get-there s.txs tx t q other) ∙ at))
      (cases_eq q tx);
  fresh = are.fresh;
}

-- nothing more is said

nothing : (xs : List Said) → xs ++ [] ≡ xs
nothing [] = refl
nothing (x ∷ xs) = ap (λ (ys : List Said). x ∷ ys) (nothing xs)

pub same-log : (f g : ℕ → List Said) → ((q : ℕ) → f q ≡ g q) → f ≡ g
same-log f g e = λ i q. e q i

pub quiet : (log : ℕ → List Said) → log ≡ (λ q. log q ++ [])
quiet log = same-log log (λ q. log q ++ []) (λ q. sym (nothing (log q)))

-- BEGIN

pub past-old : (first : ℕ) (cs : List Commit) → IsHistory first cs → (n : ℕ) (ts : Tables) → past [] cs n ≡ Some ts → AreOld ts
past-old first cs history n ts at = each-map (λ t. (0 < t.1.version) × (t.1.version ≤ n)) (λ t. (t.1.version == 0) ≡ false) ts (λ t v. not-zero t.1.version v.0) (history.versions n ts at)

on-begin : (first : ℕ) (s : State) (session : ℕ) (log : ℕ → List Said) → HasHistory first s → AreReplayed s log → (o : Option (ℕ × Txn)) → AreReplayed (begin s session o).1 log
on-begin first s session log has are (Some e) = are
on-begin first s session log has are None =
    let n = next-number s.rows_opening s.drawn in
    let drawn : AreReplayed (drawing s) log = record { replayed = are.replayed; fresh = λ q lt. are.fresh q (omega (arith, n, lt)) } in
    let none : log (number_of (drawing s)) ≡ [] = are.fresh (number_of (drawing s)) (omega (arith, n)) in
    let made = put (drawing s) (number_of (drawing s)) (new_txn (tables_of s)) log drawn
    (subst (λ (xs : List Said). Replayed (new_txn (tables_of s)) xs) (sym none) (replayed-first (tables_of s) (past-old first s.commits has.history (length s.commits) (tables_of s) (past-last [] s.commits)))) in
    record { replayed = made.replayed; fresh = made.fresh }

-- STATEMENT

and_false : (b : Bool) → (b && false) ≡ false
and_false true = refl
and_false false = refl

-- what its transaction has said behind it, if its phase is this
abbrev told : State → (ℕ → List Said) → ℕ → Stmt → ℕ → Txn → Phase → ℕ → List Said
told s log session stmt tx t p q = log q ++ cond ((tx == q) && is_active p) (saying s q stmt (on_txn s (steps.Statement session stmt) tx t p).0 ∷ []) []

module _ (first : ℕ) (s : State) (log : ℕ → List Said) (has : HasHistory first s) (are : AreReplayed s log) (session : ℕ) (stmt : Stmt) (tx : ℕ) (t : Txn) (at : maps.get s.txs tx ≡ Some t) where
  not-active : (p : Phase) → is_active p ≡ false → AreReplayed s (told s log session stmt tx t p)
  not-active p is = subst (λ (f : ℕ → List Said). AreReplayed s f) (same-log log (told s log session stmt tx t p) (λ q. sym (nothing (log q)) ∙ ap (λ b. log q ++ cond b (saying s q stmt (on_txn s (steps.Statement session stmt) tx t p).0 ∷ []) []) (passes q))) are
    where
      passes : (q : ℕ) → false ≡ ((tx == q) && is_active p)
      passes q = sym (ap (λ b. (tx == q) && b) is ∙ and_false (tx == q))

  own : told s log session stmt tx t phases.Active tx ≡ log tx ++ saying s tx stmt (statement s tx t stmt).0 ∷ []
  own = ap (λ b. log tx ++ cond (b && true) (saying s tx stmt (statement s tx t stmt).0 ∷ []) []) (test-same tx tx refl)

  others : (q : ℕ) → q ≢ tx → told s log session stmt tx t phases.Active q ≡ log q
  others q other = ap (λ b. log q ++ cond (b && true) (saying s q stmt (statement s tx t stmt).0 ∷ []) []) (test-other tx q (λ (e : tx ≡ q). other (sym e))) ∙ nothing (log q)

  active : is_decided t.phase ≡ false → AreReplayed (with_txn s tx (statement s tx t stmt).1) (told s log session stmt tx t phases.Active)
  active live = record {
    replayed = λ q x is. ⊎_elim
        (λ (e : q ≡ tx).
        let same : (statement s tx t stmt).1 ≡ x = some_same (statement s tx t stmt).1 x (sym (get-here s.txs tx (statement s tx t stmt).1) ∙ ap (maps.get (maps.insert s.txs tx (statement s tx t stmt).1)) (sym e) ∙ is) in
        subst (λ (n : ℕ). Replayed x (told s log session stmt tx t phases.Active n)) (sym e)
        (subst (λ (y : Txn). Replayed y (told s log session stmt tx t phases.Active tx)) same (subst (λ (xs : List Said). Replayed (statement s tx t stmt).1 xs) (sym own) one)))
        (λ (other : q ≢ tx). subst (λ (xs : List Said). Replayed x xs) (sym (others q other)) (are.replayed q x (sym (get-there s.txs tx (statement s tx t stmt).1 q other) ∙ is)))
        (cases_eq q tx);
    fresh = λ q lt. others q (too-low q lt) ∙ are.fresh q lt;
  }
    where
      one : Replayed (statement s tx t stmt).1 (log tx ++ saying s tx stmt (statement s tx t stmt).0 ∷ [])
      one = said-more first s.commits s tx t stmt (log tx) (has.transactions tx t at live) (are.replayed tx t at)

      too-low : (q : ℕ) → number_of s < q → q ≢ tx
      too-low q lt = λ (e : q ≡ tx). (let le = has.numbers tx t at in below q (number_of s) tx lt le e)
        where
          below : (q n tx : ℕ) → n < q → tx ≤ n → q ≡ tx → ⊥
          below q n tx lt le e = omega (arith, lt, le, e)

  by-phase : (p : Phase) → t.phase ≡ p → AreReplayed (on_txn s (steps.Statement session stmt) tx t p).1 (told s log session stmt tx t p)
  by-phase phases.Active is = active (ap is_decided is)
  by-phase phases.Prepared is = not-active phases.Prepared refl
  by-phase phases.Decided is = not-active phases.Decided refl
  by-phase phases.Finished is = not-active phases.Finished refl
  by-phase phases.Dropped is = not-active phases.Dropped refl

on-statement : (first : ℕ) (s : State) (log : ℕ → List Said) (session : ℕ) (stmt : Stmt) → HasHistory first s → AreReplayed s log → (o : Option (ℕ × Txn)) → txn_of s session ≡ o
    → AreReplayed (on_session s (steps.Statement session stmt) o).1 (λ q. log q ++ said_by s stmt (on_session s (steps.Statement session stmt) o).0 o q)
on-statement first s log session stmt has are None is = subst (λ (f : ℕ → List Said). AreReplayed s f) (quiet log) are
on-statement first s log session stmt has are (Some e) is = by-phase first s log has are session stmt e.0 e.1 (txn-there s (maps.get s.sessions session) e is).0 e.1.phase refl

-- THE OTHER STEPS say nothing

module _ (s : State) (log : ℕ → List Said) (are : AreReplayed s log) (tx : ℕ) (t : Txn) (at : maps.get s.txs tx ≡ Some t) where
  on-ended : (session : ℕ) → AreReplayed (ended s session tx) log
  on-ended session = fewer s (ended s session tx) log are (same-le (number_of s)) (λ q x is. gone-was s tx q x is)

  on-finished : (session : ℕ) → AreReplayed (ended (settled_by s t) session tx) log
  on-finished session = fewer s (ended (settled_by s t) session tx) log are (same-le (number_of s)) (λ q x is. gone-was s tx q x is)

  on-phase : (p : Phase) → AreReplayed (with_txn s tx (with_phase t p)) log
  on-phase p = put s tx (with_phase t p) log are (are.replayed tx t at)

  on-committed : AreReplayed (committed s tx t) log
  on-committed = let one = on-phase phases.Decided in record { replayed = one.replayed; fresh = one.fresh }

-- a step that is no statement
abbrev IsQuiet : Step → Type 0
IsQuiet (steps.Statement session stmt) = ⊥
IsQuiet _ = Unit {0}

next-opening : (o d : ℕ) → d < 2 ^ 32 → o * 2 ^ 32 + d ≤ (o + 1) * 2 ^ 32 + 0
next-opening o d lt = omega (arith, lt)

quiet-kept : (first : ℕ) (s : State) (log : ℕ → List Said) (x : Step) → HasHistory first s → HasSessions s → AreReplayed s log → IsQuiet x → AreReplayed (step s x).1 log
unfolding step
quiet-kept first s log (steps.Begin session) has sessions are is = on-begin first s session log has are (txn_of s session)
quiet-kept first s log (steps.Statement session stmt) has sessions are is = absurd is
quiet-kept first s log (steps.Prepare session) has sessions are is = with-session (λ (x : State). AreReplayed x log) s session (steps.Prepare session) are (λ tx t at of. at-prepare (λ (x : State). AreReplayed x log) s are tx t session t.phase (on-phase s log are tx t at phases.Prepared))
quiet-kept first s log (steps.Decide session) has sessions are is = with-session (λ (x : State). AreReplayed x log) s session (steps.Decide session) are
    (λ tx t at of. at-decide (λ (x : State). AreReplayed x log) s are tx t session t.phase (on-ended s log are tx t at session) (on-committed s log are tx t at))
quiet-kept first s log (steps.Finish session) has sessions are is = with-session (λ (x : State). AreReplayed x log) s session (steps.Finish session) are
    (λ tx t at of. at-finish (λ (x : State). AreReplayed x log) s are tx t session t.phase (on-finished s log are tx t at session))
quiet-kept first s log (steps.Rollback session) has sessions are is = with-session (λ (x : State). AreReplayed x log) s session (steps.Rollback session) are
    (λ tx t at of. at-rollback (λ (x : State). AreReplayed x log) s are tx t session t.phase (on-ended s log are tx t at session))
quiet-kept first s log (steps.File cmd) has sessions are is = at-file (λ (x : State). AreReplayed x log) s are cmd (λ files. record { replayed = are.replayed; fresh = are.fresh })
quiet-kept first s log (steps.Archive n) has sessions are is = at-archive (λ (x : State). AreReplayed x log) s are n (λ copies. record { replayed = are.replayed; fresh = are.fresh })
quiet-kept first s log steps.Backup has sessions are is = at-backup (λ (x : State). AreReplayed x log) s are (λ backups. record { replayed = are.replayed; fresh = are.fresh })
quiet-kept first s log (steps.Restore target) has sessions are is = at-restore (λ (x : State). AreReplayed x log) s are target (λ later. record { replayed = are.replayed; fresh = λ q lt. are.fresh q (let n = next-number s.rows_opening s.drawn in omega (arith, n, lt)) })
quiet-kept first s log (steps.Tick n) has sessions are is = record { replayed = are.replayed; fresh = are.fresh }
quiet-kept first s log steps.CrashManager has sessions are is = record { replayed = are.replayed; fresh = are.fresh }
quiet-kept first s log steps.CrashDatabase has sessions are is = fewer s (crash_database s) log are (next-opening s.rows_opening s.drawn sessions.few) (bound-was s)
quiet-kept first s log steps.Resolve has sessions are is = fewer s (resolve s).1 log are (let same = resolve-same number_of (λ x tx. refl) (λ x t. refl) s in equal-le (number_of s) (number_of (resolve s).1) same)
    (λ q t at. finish-all-was s.commits s q t (drop-all-was (maps.keys s.txs) (finish_all s s.commits) q t at))

-- EACH STEP
pub replayed-kept : (first : ℕ) (s : State) (log : ℕ → List Said) (x : Step) → HasHistory first s → HasSessions s → AreReplayed s log → AreReplayed (step s x).1 (λ q. log q ++ said_in s x q)
unfolding step
replayed-kept first s log (steps.Statement session stmt) has sessions are = on-statement first s log session stmt has are (txn_of s session) refl
replayed-kept first s log (steps.Begin session) has sessions are = subst (λ (f : ℕ → List Said). AreReplayed (step s (steps.Begin session)).1 f) (quiet log) (quiet-kept first s log (steps.Begin session) has sessions are tt)
replayed-kept first s log (steps.Prepare session) has sessions are = subst (λ (f : ℕ → List Said). AreReplayed (step s (steps.Prepare session)).1 f) (quiet log) (quiet-kept first s log (steps.Prepare session) has sessions are tt)
replayed-kept first s log (steps.Decide session) has sessions are = subst (λ (f : ℕ → List Said). AreReplayed (step s (steps.Decide session)).1 f) (quiet log) (quiet-kept first s log (steps.Decide session) has sessions are tt)
replayed-kept first s log (steps.Finish session) has sessions are = subst (λ (f : ℕ → List Said). AreReplayed (step s (steps.Finish session)).1 f) (quiet log) (quiet-kept first s log (steps.Finish session) has sessions are tt)
replayed-kept first s log (steps.Rollback session) has sessions are = subst (λ (f : ℕ → List Said). AreReplayed (step s (steps.Rollback session)).1 f) (quiet log) (quiet-kept first s log (steps.Rollback session) has sessions are tt)
replayed-kept first s log (steps.File cmd) has sessions are = subst (λ (f : ℕ → List Said). AreReplayed (step s (steps.File cmd)).1 f) (quiet log) (quiet-kept first s log (steps.File cmd) has sessions are tt)
replayed-kept first s log (steps.Archive n) has sessions are = subst (λ (f : ℕ → List Said). AreReplayed (step s (steps.Archive n)).1 f) (quiet log) (quiet-kept first s log (steps.Archive n) has sessions are tt)
replayed-kept first s log steps.Backup has sessions are = subst (λ (f : ℕ → List Said). AreReplayed (step s steps.Backup).1 f) (quiet log) (quiet-kept first s log steps.Backup has sessions are tt)
replayed-kept first s log (steps.Restore target) has sessions are = subst (λ (f : ℕ → List Said). AreReplayed (step s (steps.Restore target)).1 f) (quiet log) (quiet-kept first s log (steps.Restore target) has sessions are tt)
replayed-kept first s log (steps.Tick n) has sessions are = subst (λ (f : ℕ → List Said). AreReplayed (step s (steps.Tick n)).1 f) (quiet log) (quiet-kept first s log (steps.Tick n) has sessions are tt)
replayed-kept first s log steps.CrashManager has sessions are = subst (λ (f : ℕ → List Said). AreReplayed (step s steps.CrashManager).1 f) (quiet log) (quiet-kept first s log steps.CrashManager has sessions are tt)
replayed-kept first s log steps.CrashDatabase has sessions are = subst (λ (f : ℕ → List Said). AreReplayed (step s steps.CrashDatabase).1 f) (quiet log) (quiet-kept first s log steps.CrashDatabase has sessions are tt)
replayed-kept first s log steps.Resolve has sessions are = subst (λ (f : ℕ → List Said). AreReplayed (step s steps.Resolve).1 f) (quiet log) (quiet-kept first s log steps.Resolve has sessions are tt)

-- THE BEGIN OF A RUN
pub replayed-start : (given : Settings) (x : Stored) → AreReplayed (start given x) (λ q. [])
replayed-start given x = record {
  replayed = λ q t at. absurd (none_some t (sym (get-empty nat_cmp q) ∙ at));
  fresh = λ q lt. refl;
}
