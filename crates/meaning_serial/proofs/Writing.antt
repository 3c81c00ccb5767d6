-- THE WRITERS OF A RUN: each Decide that commits leads to what its transaction has said, on the tables after the commit before it.
use Rattle.std.proofs.Common.{◌≡◌, ℕ, suc, ◌+◌, ◌-◌, ◌^◌, ◌<◌, ◌==◌, ◌&&◌, List, [], ◌∷◌, ◌++◌, append_assoc, Bool, true, false, not, cond, filter, length, Option, Some, None, is_some, refl, sym, ◌∙◌, ap, subst, arith, add-one}
use Rattle.std.proofs.lemmas.Bool.Decides.{nat_tests}
use Rattle.std.proofs.lemmas.List.Elements.{All-append, All-from_recursion}
use Rattle.std.specs.FinMap as maps
use Rattle.std.specs.List.{All}
use Rattle.dl_base.specs.declared.answer.Answer.{Answer}
use Rattle.dl_base.specs.declared.answer.Answer.TheVariants as answers
use Rattle.dl_base.specs.declared.answer.Refusal.{Refusal}
use Rattle.dl_base.specs.declared.answer.Refusal.TheVariants as reasons
use Rattle.dl_base.specs.declared.statement.Stmt.{Stmt}
use Rattle.dl_base.specs.declared.step.Phase.{Phase}
use Rattle.dl_base.specs.declared.step.Phase.TheVariants as phases
use Rattle.dl_base.specs.declared.step.Settings.{Settings}
use Rattle.dl_base.specs.declared.step.Step.{Step}
use Rattle.dl_base.specs.declared.step.Step.TheVariants as steps
use Rattle.dl_base.specs.declared.step.Target.{Target}
use Rattle.meaning_areas.specs.Commits.{Commit, commit_of}
use Rattle.meaning_areas.specs.Same.{same_tables}
use Rattle.meaning_areas.specs.Stands.{Stored, past}
use Rattle.meaning_areas.proofs.Tables.{commit_of-here}
use Rattle.meaning_merge.specs.History.{AreCurrent, IsTransaction}
use Rattle.meaning_merge.specs.Restoring.{in_the_way}
use Rattle.meaning_merge.proofs.Histories.{ordered-named, past-last, past-more}
use Rattle.meaning_merge.proofs.Used.{unused-none}
use Rattle.meaning_tables.specs.Links.{gives, takes}
use Rattle.meaning_tables.specs.Tables.{Tables}
use Rattle.meaning_system.specs.Claims.{conflict}
use Rattle.meaning_system.specs.Following.{HasSessions}
use Rattle.meaning_system.specs.Machine.{begin, by_conflict, commit_by, committed, first_session, lost_to, merged_by, next_commit, on_session, on_txn, restore, restore_at, restore_found, restore_idle, run, start, step, target_tables, unfinished}
use Rattle.meaning_system.specs.State.{State, Txn, ended, is_active, is_decided, tables_of, txn_of}
use Rattle.meaning_system.proofs.Kept.{at-archive, at-backup, at-decide, at-file, at-finish, at-prepare, at-restore, at-rollback, at-statement, resolve-same, sessions-kept, start-has, with-session}
use Rattle.meaning_system.proofs.Leading.{txn-there}
use Rattle.meaning_history.specs.Reached.{HasHistory, HasPast, first_of}
use Rattle.meaning_history.proofs.Keeping.{history-start}
use Rattle.meaning_history.proofs.Naming.{current}
use Rattle.meaning_serial.specs.Serial.{AnswerAgain, AreSerial, MayDraw, Said, Serial, Writer, adds_commit, replay, said, said_by, said_in, standing, writer_by, writers, writers_in}
use Rattle.meaning_serial.proofs.Deeds.{false_true}
use Rattle.meaning_serial.proofs.Merging.{merged-again, same-named}
use Rattle.meaning_serial.proofs.Replaying.{Replays}
use Rattle.meaning_serial.proofs.Running.{AreReplayed, past-old, replayed-kept, replayed-start, same-log}
use Rattle.meaning_serial.proofs.Saying.{saying}

-- ---- commits stay

-- the tables after each commit stay those, and who has committed has
record Grows (cs later : List Commit) : Type 0 where
  stays : (n : ℕ) (ts : Tables) → past [] cs n ≡ Some ts → past [] later n ≡ Some ts
  has : (tx : ℕ) → is_some (commit_of tx cs) ≡ true → is_some (commit_of tx later) ≡ true

commit-more : (tx : ℕ) (d : Commit) (cs : List Commit) → is_some (commit_of tx cs) ≡ true → is_some (commit_of tx (cs ++ d ∷ [])) ≡ true
commit-more tx d [] some = absurd (false_true some)
commit-more tx d (c ∷ cs) some = by (c.tx == tx) some (λ h. commit-more tx d cs h)
  where
    by : (b : Bool) → is_some (cond b (Some c) (commit_of tx cs)) ≡ true → (is_some (commit_of tx cs) ≡ true → is_some (commit_of tx (cs ++ d ∷ [])) ≡ true) → is_some (cond b (Some c) (commit_of tx (cs ++ d ∷ []))) ≡ true
    by true e go = refl
    by false e go = go e

grows-self : (cs : List Commit) → Grows cs cs
grows-self cs = record { stays = λ n ts at. at; has = λ tx some. some }

grows-one : (cs : List Commit) (d : Commit) → Grows cs (cs ++ d ∷ [])
grows-one cs d = record { stays = λ n ts at. past-more [] d cs n ts at; has = λ tx some. commit-more tx d cs some }

step-grows : (s : State) (x : Step) → Grows s.commits (step s x).1.commits
unfolding step
step-grows s (steps.Begin session) = by (txn_of s session)
  where
    by : (o : Option (ℕ × Txn)) → Grows s.commits (begin s session o).1.commits
    by (Some e) = grows-self s.commits
    by None = grows-self s.commits
step-grows s (steps.Statement session stmt) = with-session (λ (x : State). Grows s.commits x.commits) s session (steps.Statement session stmt) (grows-self s.commits) (λ tx t at of. at-statement (λ (x : State). Grows s.commits x.commits) s (grows-self s.commits) tx t session stmt t.phase (grows-self s.commits))
step-grows s (steps.Prepare session) = with-session (λ (x : State). Grows s.commits x.commits) s session (steps.Prepare session) (grows-self s.commits) (λ tx t at of. at-prepare (λ (x : State). Grows s.commits x.commits) s (grows-self s.commits) tx t session t.phase (grows-self s.commits))
step-grows s (steps.Decide session) = with-session (λ (x : State). Grows s.commits x.commits) s session (steps.Decide session) (grows-self s.commits)
    (λ tx t at of. at-decide (λ (x : State). Grows s.commits x.commits) s (grows-self s.commits) tx t session t.phase (grows-self s.commits) (grows-one s.commits (commit_by s tx t)))
step-grows s (steps.Finish session) = with-session (λ (x : State). Grows s.commits x.commits) s session (steps.Finish session) (grows-self s.commits) (λ tx t at of. at-finish (λ (x : State). Grows s.commits x.commits) s (grows-self s.commits) tx t session t.phase (grows-self s.commits))
step-grows s (steps.Rollback session) = with-session (λ (x : State). Grows s.commits x.commits) s session (steps.Rollback session) (grows-self s.commits) (λ tx t at of. at-rollback (λ (x : State). Grows s.commits x.commits) s (grows-self s.commits) tx t session t.phase (grows-self s.commits))
step-grows s (steps.File cmd) = at-file (λ (x : State). Grows s.commits x.commits) s (grows-self s.commits) cmd (λ files. grows-self s.commits)
step-grows s (steps.Archive n) = at-archive (λ (x : State). Grows s.commits x.commits) s (grows-self s.commits) n (λ copies. grows-self s.commits)
step-grows s steps.Backup = at-backup (λ (x : State). Grows s.commits x.commits) s (grows-self s.commits) (λ backups. grows-self s.commits)
step-grows s (steps.Restore target) = at-restore (λ (x : State). Grows s.commits x.commits) s (grows-self s.commits) target (λ later. grows-one s.commits _)
step-grows s (steps.Tick n) = grows-self s.commits
step-grows s steps.CrashManager = grows-self s.commits
step-grows s steps.CrashDatabase = grows-self s.commits
step-grows s steps.Resolve = subst (λ (cs : List Commit). Grows s.commits cs) (sym (resolve-same (λ (x : State). x.commits) (λ x tx. refl) (λ x t. refl) s)) (grows-self s.commits)

-- ---- what holds between two steps

-- a history is kept by each step
abbrev pub KeepsHistory : Type 0
KeepsHistory = (first : ℕ) (s : State) (x : Step) → HasHistory first s → HasSessions s → HasHistory first (step s x).1

pub record Between (first : ℕ) (s : State) (log : ℕ → List Said) : Type 0 where
  pub history : HasHistory first s
  pub sessions : HasSessions s
  pub replayed : AreReplayed s log

between-kept : KeepsHistory → (first : ℕ) (s : State) (log : ℕ → List Said) (x : Step) → s.drawn + 1 < 2 ^ 32 → Between first s log → Between first (step s x).1 (λ q. log q ++ said_in s x q)
between-kept law first s log x small now = record {
  history = law first s x now.history now.sessions;
  sessions = sessions-kept s x now.sessions small;
  replayed = replayed-kept first s log x now.history now.sessions now.replayed;
}

between-same : (first : ℕ) (s : State) (f g : ℕ → List Said) → ((q : ℕ) → f q ≡ g q) → Between first s f → Between first s g
between-same first s f g same now = subst (λ (h : ℕ → List Said). Between first s h) (same-log f g same) now

-- behind a run
pub between-run : KeepsHistory → (first : ℕ) (xs : List Step) (s : State) (log : ℕ → List Said) → MayDraw s xs → Between first s log → Between first (run s xs).1 (λ q. log q ++ said s xs q)
between-run law first [] s log may now = between-same first s log (λ q. log q ++ []) (λ q. sym (nothing (log q))) now
  where
    nothing : (xs : List Said) → xs ++ [] ≡ xs
    nothing [] = refl
    nothing (x ∷ xs) = ap (λ (ys : List Said). x ∷ ys) (nothing xs)
between-run law first (x ∷ xs) s log may now =
    between-same first (run (step s x).1 xs).1 (λ q. (log q ++ said_in s x q) ++ said (step s x).1 xs q) (λ q. log q ++ (said_in s x q ++ said (step s x).1 xs q)) (λ q. append_assoc (log q) (said_in s x q) (said (step s x).1 xs q))
    (between-run law first xs (step s x).1 (λ q. log q ++ said_in s x q) may.1 (between-kept law first s log x may.0 now))

-- ---- who has committed says no more

module _ (first : ℕ) (s : State) (has : HasHistory first s) (tx : ℕ) (committed_one : is_some (commit_of tx s.commits) ≡ true) where
  not-live : (t : Txn) → maps.get s.txs tx ≡ Some t → is_active t.phase ≡ false
  not-live t at = by t.phase refl
    where
      decided : is_decided t.phase ≡ false → ⊥
      decided live = false_true (sym (ap is_some (unused-none first s.commits tx (has.transactions tx t at live).unused)) ∙ committed_one)

      by : (p : Phase) → t.phase ≡ p → is_active p ≡ false
      by phases.Active is = absurd (decided (ap is_decided is))
      by phases.Prepared is = refl
      by phases.Decided is = refl
      by phases.Finished is = refl
      by phases.Dropped is = refl

  says-nothing : (stmt : Stmt) (answer : Answer) (session : ℕ) (o : Option (ℕ × Txn)) → txn_of s session ≡ o → said_by s stmt answer o tx ≡ []
  says-nothing stmt answer session None is = refl
  says-nothing stmt answer session (Some e) is = by (e.0 == tx) refl
    where
      same-number : (a b : ℕ) → (a == b) ≡ true → a ≡ b
      same-number a b e = grind (arith, nat_tests)

      there : maps.get s.txs e.0 ≡ Some e.1
      there = (txn-there s (maps.get s.sessions session) e is).0

      by : (b : Bool) → (e.0 == tx) ≡ b → cond (b && is_active e.1.phase) (saying s tx stmt answer ∷ []) [] ≡ []
      by true own = ap (λ a. cond a (saying s tx stmt answer ∷ []) []) (not-live e.1 (ap (maps.get s.txs) (sym (same-number e.0 tx own)) ∙ there))
      by false own = refl

  quiet-in : (x : Step) → said_in s x tx ≡ []
  quiet-in (steps.Statement session stmt) = says-nothing stmt (step s (steps.Statement session stmt)).0 session (txn_of s session) refl
  quiet-in _ = refl

says-no-more : KeepsHistory → (first : ℕ) (xs : List Step) (s : State) (tx : ℕ) → MayDraw s xs → HasHistory first s → HasSessions s → is_some (commit_of tx s.commits) ≡ true → said s xs tx ≡ []
says-no-more law first [] s tx may has sessions some = refl
says-no-more law first (x ∷ xs) s tx may has sessions some =
    ap (λ (ys : List Said). ys ++ said (step s x).1 xs tx) (quiet-in first s has tx some x)
    ∙ says-no-more law first xs (step s x).1 tx may.1 (law first s x has sessions) (sessions-kept s x sessions may.0) ((step-grows s x).has tx some)

run-grows : (xs : List Step) (s : State) → Grows s.commits (run s xs).1.commits
run-grows [] s = grows-self s.commits
run-grows (x ∷ xs) s =
    let one = step-grows s x in
    let rest = run-grows xs (step s x).1 in
    record { stays = λ n ts at. rest.stays n ts (one.stays n ts at); has = λ tx some. rest.has tx (one.has tx some) }

-- ---- a Decide that commits

past-new : (t : Tables) (d : Commit) (cs : List Commit) → past t (cs ++ d ∷ []) (suc (length cs)) ≡ Some d.tables
past-new t d [] = refl
past-new t d (c ∷ cs) = past-new c.tables d cs

-- what it did
record Wrote (s : State) (n : ℕ) (o : Option (ℕ × Txn)) (later : State) : Type 0 where
  tx : ℕ
  t : Txn
  its : o ≡ Some (tx, t)
  prepared : is_decided t.phase ≡ false
  clear : conflict t.base (tables_of s) t.named ≡ None
  number : next_commit s ≡ n
  behind : committed s tx t ≡ later

abbrev IsCommitted : Answer → Type 0
IsCommitted (answers.Committed n) = Unit {0}
IsCommitted _ = ⊥

abbrev number_in : Answer → ℕ
number_in (answers.Committed n) = n
number_in _ = 0

refused-not : (why : Refusal) (n : ℕ) → answers.Refused why ≡ answers.Committed n → ⊥
refused-not why n e = subst IsCommitted (sym e) tt

done-not : (n : ℕ) → answers.Done ≡ answers.Committed n → ⊥
done-not n e = subst IsCommitted (sym e) tt

on-decide : (s : State) (session n tx : ℕ) (t : Txn) (p : Phase) → t.phase ≡ p → (on_txn s (steps.Decide session) tx t p).0 ≡ answers.Committed n → Wrote s n (Some (tx, t)) (on_txn s (steps.Decide session) tx t p).1
on-decide s session n tx t phases.Active is e = absurd (refused-not (reasons.WrongPhase phases.Active) n e)
on-decide s session n tx t phases.Prepared is e = by (same_tables t.base t.copy) e
  where
    conflicts : (o : Option Refusal) → conflict t.base (tables_of s) t.named ≡ o → (by_conflict s session tx t o).0 ≡ answers.Committed n → Wrote s n (Some (tx, t)) (by_conflict s session tx t o).1
    conflicts (Some why) at e = absurd (refused-not why n e)
    conflicts None at e = record { tx = tx; t = t; its = refl; prepared = ap is_decided is; clear = at; number = ap number_in e; behind = refl }

    by : (b : Bool) → (cond b (answers.Done, ended s session tx) (by_conflict s session tx t (conflict t.base (tables_of s) t.named))).0 ≡ answers.Committed n
        → Wrote s n (Some (tx, t)) (cond b (answers.Done, ended s session tx) (by_conflict s session tx t (conflict t.base (tables_of s) t.named))).1
    by true e = absurd (done-not n e)
    by false e = conflicts (conflict t.base (tables_of s) t.named) refl e
on-decide s session n tx t phases.Decided is e = absurd (refused-not (reasons.WrongPhase phases.Decided) n e)
on-decide s session n tx t phases.Finished is e = absurd (refused-not (reasons.WrongPhase phases.Finished) n e)
on-decide s session n tx t phases.Dropped is e = absurd (refused-not (reasons.WrongPhase phases.Dropped) n e)

wrote : (s : State) (session n : ℕ) → (step s (steps.Decide session)).0 ≡ answers.Committed n → Wrote s n (txn_of s session) (step s (steps.Decide session)).1
unfolding step
wrote s session n e = by (txn_of s session) e
  where
    by : (o : Option (ℕ × Txn)) → (on_session s (steps.Decide session) o).0 ≡ answers.Committed n → Wrote s n o (on_session s (steps.Decide session) o).1
    by None e = absurd (refused-not reasons.NoTransaction n e)
    by (Some x) e = on-decide s session n x.0 x.1 x.1.phase refl e

pub writes-one : (s : State) (session n : ℕ) → (step s (steps.Decide session)).0 ≡ answers.Committed n → (tx : ℕ) × (writers_in s (steps.Decide session) ≡ record { commit = n; tx = tx } ∷ []) × (n ≡ length s.commits + 1)
writes-one s session n e =
    let one = wrote s session n e in
    (one.tx, ap (λ (a : Answer). writer_by a (txn_of s session)) e ∙ ap (writer_by (answers.Committed n)) one.its, sym one.number)

minus-one : (n : ℕ) → (n + 1) - 1 ≡ n
minus-one n = omega arith

-- ITS WRITER
serial-one : (first : ℕ) (s : State) (log : ℕ → List Said) → Between first s log → (tx : ℕ) (t : Txn) → maps.get s.txs tx ≡ Some t → is_decided t.phase ≡ false → conflict t.base (tables_of s) t.named ≡ None
    → (commits : List Commit) → Grows (s.commits ++ commit_by s tx t ∷ []) commits → Serial commits (record { commit = next_commit s; tx = tx }) (log tx)
serial-one first s log now tx t at live none commits grows =
    let txn : IsTransaction first s.commits tx t.base t.copy t.named t.next = now.history.transactions tx t at live in
    let seen : AreCurrent t.base (tables_of s) t.named = current t.base (tables_of s) t.named none in
    let one : Replays t.named t.copy t.next (standing (log tx)) (tables_of s) = now.replayed.replayed tx t at (tables_of s) (ordered-named (tables_of s) (now.history.history.ordered (length s.commits) (tables_of s) (past-last [] s.commits)))
    (past-old first s.commits now.history.history (length s.commits) (tables_of s) (past-last [] s.commits)) (same-named first s.commits tx t.base t.copy t.named t.next now.history.history txn seen) in
    record {
      before = tables_of s;
      after = merged_by s t;
      was = grows.stays (next_commit s - 1) (tables_of s) (past-more [] (commit_by s tx t) s.commits (next_commit s - 1) (tables_of s) (ap (past [] s.commits) (minus-one (length s.commits)) ∙ past-last [] s.commits));
      is = grows.stays (next_commit s) (merged_by s t) (ap (past [] (s.commits ++ commit_by s tx t ∷ [])) (add-one (length s.commits)) ∙ past-new [] (commit_by s tx t) s.commits);
      answers = one.answers;
      tables = merged-again first s.commits tx t.base t.copy t.named t.next now.history.history txn seen (replay (tables_of s) 1 (standing (log tx))).tables one.beside;
    }

-- ---- a whole run

none_of : (P : Writer → Type 0) → All P []
none_of P = All-from_recursion P [] tt

module _ (law : KeepsHistory) (first : ℕ) (s : State) (log : ℕ → List Said) (now : Between first s log) (session : ℕ) (xs : List Step) (may : MayDraw s (steps.Decide session ∷ xs)) where
  abbrev later : State
  later = (step s (steps.Decide session)).1

  abbrev IsOne : Writer → Type 0
  IsOne w = Serial (run later xs).1.commits w (log w.tx ++ said later xs w.tx)

  commits-later : (d : Commit) (last : List Commit) → s.commits ++ d ∷ [] ≡ last → Grows last (run later xs).1.commits → Grows (s.commits ++ d ∷ []) (run later xs).1.commits
  commits-later d last same grows = subst (λ (cs : List Commit). Grows cs (run later xs).1.commits) (sym same) grows

  decided-one : (n : ℕ) (e : ℕ × Txn) → (step s (steps.Decide session)).0 ≡ answers.Committed n → txn_of s session ≡ Some e → IsOne (record { commit = n; tx = e.0 })
  decided-one n e answered its = subst (λ (y : ℕ × Txn). IsOne (record { commit = n; tx = y.0 })) (some_pair (one.tx, one.t) e (sym one.its ∙ its)) (subst (λ (m : ℕ). IsOne (record { commit = m; tx = one.tx })) one.number written)
    where
      some_pair : (x y : ℕ × Txn) → Some x ≡ Some y → x ≡ y
      some_pair x y e = cc

      one : Wrote s n (txn_of s session) (step s (steps.Decide session)).1
      one = wrote s session n answered

      there : maps.get s.txs one.tx ≡ Some one.t
      there = (txn-there s (maps.get s.sessions session) (one.tx, one.t) one.its).0

      same-commits : s.commits ++ commit_by s one.tx one.t ∷ [] ≡ later.commits
      same-commits = ap (λ (x : State). x.commits) one.behind

      unused : commit_of one.tx s.commits ≡ None
      unused = unused-none first s.commits one.tx (now.history.transactions one.tx one.t there one.prepared).unused

      has-committed : is_some (commit_of one.tx later.commits) ≡ true
      has-committed = ap (λ (cs : List Commit). is_some (commit_of one.tx cs)) (sym same-commits) ∙ ap is_some (commit_of-here (commit_by s one.tx one.t) s.commits unused)

      silent : said later xs one.tx ≡ []
      silent = says-no-more law first xs later one.tx may.1 (law first s (steps.Decide session) now.history now.sessions) (sessions-kept s (steps.Decide session) now.sessions may.0) has-committed

      nothing : (ys : List Said) → ys ++ [] ≡ ys
      nothing [] = refl
      nothing (y ∷ ys) = ap (λ (zs : List Said). y ∷ zs) (nothing ys)

      written : IsOne (record { commit = next_commit s; tx = one.tx })
      written = subst (λ (ys : List Said). Serial (run later xs).1.commits (record { commit = next_commit s; tx = one.tx }) ys) (sym (ap (λ (ys : List Said). log one.tx ++ ys) silent ∙ nothing (log one.tx)))
          (serial-one first s log now one.tx one.t there one.prepared one.clear (run later xs).1.commits (commits-later (commit_by s one.tx one.t) later.commits same-commits (run-grows xs later)))

  decided-all : (a : Answer) (o : Option (ℕ × Txn)) → (step s (steps.Decide session)).0 ≡ a → txn_of s session ≡ o → All IsOne (writer_by a o)
  decided-all (answers.Committed n) (Some e) is its = All-from_recursion IsOne (record { commit = n; tx = e.0 } ∷ []) (decided-one n e is its, tt)
  decided-all (answers.Committed n) None is its = none_of IsOne
  decided-all _ o is its = none_of IsOne

serial-step : KeepsHistory → (first : ℕ) (s : State) (log : ℕ → List Said) → Between first s log → (xs : List Step) (x : Step) → MayDraw s (x ∷ xs)
    → All (λ (w : Writer). Serial (run (step s x).1 xs).1.commits w (log w.tx ++ (said_in s x w.tx ++ said (step s x).1 xs w.tx))) (writers_in s x)
serial-step law first s log now xs (steps.Decide session) may = decided-all law first s log now session xs may (step s (steps.Decide session)).0 (txn_of s session) refl refl
serial-step law first s log now xs _ may = none_of _

same-said : (f g : Writer → List Said) → ((w : Writer) → f w ≡ g w) → f ≡ g
same-said f g e = λ i w. e w i

serial-run : KeepsHistory → (first : ℕ) (xs : List Step) (s : State) (log : ℕ → List Said) → MayDraw s xs → Between first s log → All (λ (w : Writer). Serial (run s xs).1.commits w (log w.tx ++ said s xs w.tx)) (writers s xs)
serial-run law first [] s log may now = none_of (λ (w : Writer). Serial s.commits w (log w.tx ++ []))
serial-run law first (x ∷ xs) s log may now =
    All-append (λ (w : Writer). Serial (run (step s x).1 xs).1.commits w (log w.tx ++ (said_in s x w.tx ++ said (step s x).1 xs w.tx))) (writers_in s x) (writers (step s x).1 xs)
    (serial-step law first s log now xs x may)
    (subst (λ (f : Writer → List Said). All (λ (w : Writer). Serial (run (step s x).1 xs).1.commits w (f w)) (writers (step s x).1 xs))
    (same-said (λ (w : Writer). (log w.tx ++ said_in s x w.tx) ++ said (step s x).1 xs w.tx) (λ (w : Writer). log w.tx ++ (said_in s x w.tx ++ said (step s x).1 xs w.tx)) (λ (w : Writer). append_assoc (log w.tx) (said_in s x w.tx) (said (step s x).1 xs w.tx)))
    (serial-run law first xs (step s x).1 (λ q. log q ++ said_in s x q) may.1 (between-kept law first s log x may.0 now)))

-- ---- from the begin

between-start : (given : Settings) (x : Stored) → HasPast x → Between (first_of x) (start given x) (λ q. [])
between-start given x has = record { history = history-start given x has; sessions = (start-has given x).1; replayed = replayed-start given x }

-- SERIAL WRITERS
pub serial : KeepsHistory → (given : Settings) (x : Stored) (xs : List Step) → HasPast x → MayDraw (start given x) xs → AreSerial (start given x) xs
serial law given x xs has may = serial-run law (first_of x) xs (start given x) (λ q. []) may (between-start given x has)

-- and whoever has not ended: what it has said is right on the tables at its begin
pub snapshot : KeepsHistory → (given : Settings) (x : Stored) (xs : List Step) → HasPast x → MayDraw (start given x) xs → (tx : ℕ) (t : Txn) → maps.get (run (start given x) xs).1.txs tx ≡ Some t → AnswerAgain t.base (said (start given x) xs tx)
snapshot law given x xs has may tx t at =
    let now = between-run law (first_of x) xs (start given x) (λ q. []) may (between-start given x has) in
    let base = now.history.bases tx t at in
    (now.replayed.replayed tx t at t.base (ordered-named t.base (now.history.history.ordered base.0 t.base base.1)) (past-old (first_of x) (run (start given x) xs).1.commits now.history.history base.0 t.base base.1) (λ name among. refl)).answers

-- ---- all other steps leave the commits as they were

true_false : true ≡ false → ⊥
true_false e = cc

module _ (s : State) where
  abbrev Same : State → Type 0
  Same later = later.commits ≡ s.commits

  decides : (session tx : ℕ) (t : Txn) (p : Phase) → adds_commit (steps.Decide session) (on_txn s (steps.Decide session) tx t p).0 ≡ false → Same (on_txn s (steps.Decide session) tx t p).1
  decides session tx t phases.Active e = refl
  decides session tx t phases.Prepared e = by (same_tables t.base t.copy) e
    where
      conflicts : (o : Option Refusal) → adds_commit (steps.Decide session) (by_conflict s session tx t o).0 ≡ false → Same (by_conflict s session tx t o).1
      conflicts (Some why) e = refl
      conflicts None e = absurd (true_false e)

      by : (b : Bool) → adds_commit (steps.Decide session) (cond b (answers.Done, ended s session tx) (by_conflict s session tx t (conflict t.base (tables_of s) t.named))).0 ≡ false
          → Same (cond b (answers.Done, ended s session tx) (by_conflict s session tx t (conflict t.base (tables_of s) t.named))).1
      by true e = refl
      by false e = conflicts (conflict t.base (tables_of s) t.named) e
  decides session tx t phases.Decided e = refl
  decides session tx t phases.Finished e = refl
  decides session tx t phases.Dropped e = refl

  decides-on : (session : ℕ) (o : Option (ℕ × Txn)) → adds_commit (steps.Decide session) (on_session s (steps.Decide session) o).0 ≡ false → Same (on_session s (steps.Decide session) o).1
  decides-on session None e = refl
  decides-on session (Some x) e = decides session x.0 x.1 x.1.phase e

  begins : (session : ℕ) (o : Option (ℕ × Txn)) → Same (begin s session o).1
  begins session (Some x) = refl
  begins session None = refl

  restores : (t : Target) (o : Option ℕ) → adds_commit (steps.Restore t) (restore s t o).0 ≡ false → Same (restore s t o).1
  restores t (Some session) e = refl
  restores t None e = idle (unfinished s) e
    where
      at : (target : Tables) (o : Option (List ℕ)) → adds_commit (steps.Restore t) (restore_at s target o).0 ≡ false → Same (restore_at s target o).1
      at target (Some path) e = refl
      at target None e = absurd (true_false e)

      found : (o : Option Tables) → adds_commit (steps.Restore t) (restore_found s t o).0 ≡ false → Same (restore_found s t o).1
      found None e = refl
      found (Some target) e = at target (in_the_way s.files s.copies (gives (tables_of s) target) (filter (λ l. not (lost_to s target l)) (takes (tables_of s) target))) e

      idle : (o : Option (ℕ × Txn)) → adds_commit (steps.Restore t) (restore_idle s t o).0 ≡ false → Same (restore_idle s t o).1
      idle (Some x) e = refl
      idle None e = found (target_tables s t) e

pub unwritten : (s : State) (x : Step) → adds_commit x (step s x).0 ≡ false → (step s x).1.commits ≡ s.commits
unfolding step
unwritten s (steps.Begin session) e = begins s session (txn_of s session)
unwritten s (steps.Statement session stmt) e = with-session (Same s) s session (steps.Statement session stmt) refl (λ tx t at of. at-statement (Same s) s refl tx t session stmt t.phase refl)
unwritten s (steps.Prepare session) e = with-session (Same s) s session (steps.Prepare session) refl (λ tx t at of. at-prepare (Same s) s refl tx t session t.phase refl)
unwritten s (steps.Decide session) e = decides-on s session (txn_of s session) e
unwritten s (steps.Finish session) e = with-session (Same s) s session (steps.Finish session) refl (λ tx t at of. at-finish (Same s) s refl tx t session t.phase refl)
unwritten s (steps.Rollback session) e = with-session (Same s) s session (steps.Rollback session) refl (λ tx t at of. at-rollback (Same s) s refl tx t session t.phase refl)
unwritten s (steps.File cmd) e = at-file (Same s) s refl cmd (λ files. refl)
unwritten s (steps.Archive n) e = at-archive (Same s) s refl n (λ copies. refl)
unwritten s steps.Backup e = at-backup (Same s) s refl (λ backups. refl)
unwritten s (steps.Restore target) e = restores s target (first_session s) e
unwritten s (steps.Tick n) e = refl
unwritten s steps.CrashManager e = refl
unwritten s steps.CrashDatabase e = refl
unwritten s steps.Resolve e = resolve-same (λ (x : State). x.commits) (λ x tx. refl) (λ x t. refl) s
