-- Each step keeps the history of a state.
use Rattle.std.proofs.Common.{◌≡◌, ◌≢◌, ⊎_elim, ℕ, ◌+◌, ◌*◌, ◌^◌, ◌<◌, ◌≤◌, List, [], ◌∷◌, ◌++◌, filter, length, slice_get, zero, suc, Bool, true, false, not, cond, ◌||◌, nat_lt, is_some, Option, Some, None, Result, Ok, Err, refl, sym, ◌∙◌, ap, subst, arith}
use Rattle.std.proofs.lemmas.Bool.{cases_eq}
use Rattle.std.proofs.lemmas.Bool.Decides.{nat_tests}
use Rattle.std.proofs.lemmas.List.Elements.{All-append, All-from_recursion, recursion_from_All}
use Rattle.std.specs.FinMap as maps
use Rattle.std.specs.FinMap.{get-empty}
use Rattle.std.specs.List.{All, AllByRecursion}
use Rattle.std.specs.Ordering.{nat_cmp}
use Rattle.dl_base.specs.declared.answer.Answer.TheVariants as answers
use Rattle.dl_base.specs.declared.answer.Refusal.{Refusal}
use Rattle.dl_base.specs.declared.sql_fault.SqlFault.{SqlFault}
use Rattle.dl_base.specs.declared.statement.Stmt.{Stmt}
use Rattle.dl_base.specs.declared.statement.Stmt.TheVariants as statements
use Rattle.dl_base.specs.declared.step.Phase.{Phase}
use Rattle.dl_base.specs.declared.step.Phase.TheVariants as phases
use Rattle.dl_base.specs.declared.step.Settings.{Settings}
use Rattle.dl_base.specs.declared.step.Step.{Step}
use Rattle.dl_base.specs.declared.step.Step.TheVariants as steps
use Rattle.dl_base.specs.declared.step.Target.{Target}
use Rattle.dl_base.specs.declared.step.Target.TheVariants as targets
use Rattle.dl_base.specs.declared.value.LinkRow.{LinkRow}
use Rattle.meaning_areas.specs.Commits.{Commit, commit_of, commit_to}
use Rattle.meaning_areas.specs.Copies.{Backup}
use Rattle.meaning_areas.specs.Same.{same_tables}
use Rattle.meaning_areas.specs.Stands.{Stored, past}
use Rattle.meaning_areas.proofs.Tables.{commit_of-there, get-here, get-there, some_same}
use Rattle.meaning_merge.specs.History.{IsHistory, IsTransaction, changed_by, is_among, is_used}
use Rattle.meaning_merge.specs.Restoring.{in_the_way, without_lost}
use Rattle.meaning_merge.proofs.Committed.{goes-on, merge-follows}
use Rattle.meaning_merge.proofs.Histories.{past-last, past-more}
use Rattle.meaning_merge.proofs.Restored.{past-follows, restore-follows}
use Rattle.meaning_merge.proofs.Transactions.{begun as begun-txn, more-named, others}
use Rattle.meaning_merge.proofs.Used.{unused-none}
use Rattle.meaning_sql.specs.declared.Context.{Context}
use Rattle.meaning_statements.specs.Changing.{Changed, change}
use Rattle.meaning_statements.specs.Selecting.{select}
use Rattle.meaning_tables.specs.Links.{gives, takes}
use Rattle.meaning_tables.specs.Tables.{Tables}
use Rattle.meaning_system.specs.Claims.{by_evaluated, claim_refusal, claimed, conflict, prepare_refusal, same_moved, statement, with_names}
use Rattle.meaning_system.specs.Following.{HasSessions}
use Rattle.meaning_system.specs.Machine.{back_up, back_up_at, begin, by_conflict, commit_by, committed, crash_database, drawing, finish_all, first_session, lost_to, new_txn, on_txn, pending, resolve, restore, restore_at, restore_found, restore_idle, restore_moved, restore_to, restored_state, settled_by, start, step, tables_in, target_tables, unfinished, voted, with_phase}
use Rattle.meaning_system.specs.Sql.{Evaluated, after_change, after_select, evaluated, is_definition, named_by}
use Rattle.meaning_system.specs.State.{State, Txn, context_of, ended, has_links, is_decided, moved_of, number_of, tables_of, txn_of, with_txn}
use Rattle.meaning_system.proofs.Kept.{at-archive, at-file, at-finish, at-rollback, at-statement, bound-was, drop-all-was, made_by, resolve-same, with-session}
use Rattle.meaning_system.proofs.Resolved.{finish-all-was, gone-was}
use Rattle.meaning_system.proofs.Stepping.{next-number}
use Rattle.meaning_history.specs.Reached.{HasHistory, HasPast, first_of}
use Rattle.meaning_history.proofs.Naming.{changed-named, current, names-apart}

-- a law of one statement of a transaction
abbrev pub Stated : Type 0
Stated = (first : ℕ) (cs : List Commit) (base copy : Tables) (names more : List (List ℕ)) (next : ℕ) (stmt : Stmt) (context : Context) (after : Changed)
    → IsTransaction first cs context.tx base copy names next → change copy stmt context next ≡ Ok after
    → ((name : List ℕ) → is_among more name ≡ false → (is_among names name ≡ false) × (is_among (changed_by stmt) name ≡ false))
    → IsTransaction first cs context.tx base after.tables more after.next

abbrev OfPast : List Commit → Backup → Type 0
OfPast cs x = past [] cs x.commit ≡ Some x.tables

-- the same commits and backups, no number taken back, and no other transactions
fewer : (first : ℕ) (s later : State) → HasHistory first s → later.commits ≡ s.commits → later.backups ≡ s.backups → number_of s ≤ number_of later
    → ((q : ℕ) (t : Txn) → maps.get later.txs q ≡ Some t → maps.get s.txs q ≡ Some t) → HasHistory first later
fewer first s later has same backups le was = record {
  drawn = (let one = has.drawn in omega (arith, one, le));
  commits = λ q lt. ap (commit_of q) same ∙ has.commits q (omega (arith, lt, le));
  numbers = λ q t at. (let one = has.numbers q t (was q t at) in omega (arith, one, le));
  history = subst (IsHistory first) (sym same) has.history;
  bases = λ q t at. subst (λ cs. (n : ℕ) × (past [] cs n ≡ Some t.base)) (sym same) (has.bases q t (was q t at));
  transactions = λ q t at live. subst (λ cs. IsTransaction first cs q t.base t.copy t.named t.next) (sym same) (has.transactions q t (was q t at) live);
  backups = subst (λ cs. All (OfPast cs) later.backups) (sym same) (subst (λ bs. All (OfPast s.commits) bs) (sym backups) has.backups);
}

-- one transaction put
put : (first : ℕ) (s : State) (tx : ℕ) (t : Txn) → HasHistory first s → tx ≤ number_of s → (n : ℕ) × (past [] s.commits n ≡ Some t.base) → (is_decided t.phase ≡ false → IsTransaction first s.commits tx t.base t.copy t.named t.next) → HasHistory first (with_txn s tx t)
put first s tx t has le base one = record {
  drawn = has.drawn;
  commits = has.commits;
  numbers = λ q x at. ⊎_elim
      (λ (e : q ≡ tx). (omega (arith, le, e)))
      (λ (other : q ≢ tx). has.numbers q x (sym (get-there s.txs tx t q other) ∙ at))
      (cases_eq q tx);
  history = has.history;
  bases = λ q x at. ⊎_elim
      (λ (e : q ≡ tx). subst (λ (y : Txn). (n : ℕ) × (past [] s.commits n ≡ Some y.base)) (some_same t x (sym (get-here s.txs tx t) ∙ ap (maps.get (maps.insert s.txs tx t)) (sym e) ∙ at)) base)
      (λ (other : q ≢ tx). has.bases q x (sym (get-there s.txs tx t q other) ∙ at))
      (cases_eq q tx);
  transactions = λ q x at live. ⊎_elim
      (λ (e : q ≡ tx).
      let same : t ≡ x = some_same t x (sym (get-here s.txs tx t) ∙ ap (maps.get (maps.insert s.txs tx t)) (sym e) ∙ at) in
      subst (λ n. IsTransaction first s.commits n x.base x.copy x.named x.next) (sym e)
      (subst (λ (y : Txn). IsTransaction first s.commits tx y.base y.copy y.named y.next) same (one (ap (λ (y : Txn). is_decided y.phase) same ∙ live))))
      (λ (other : q ≢ tx). has.transactions q x (sym (get-there s.txs tx t q other) ∙ at) live)
      (cases_eq q tx);
  backups = has.backups;
}

false_true : false ≡ true → ⊥
false_true e = cc

none_some : {A : Type 0} (x : A) → None ≡ Some x → ⊥
none_some x e = cc

-- BEGIN

unused : (first : ℕ) (s : State) (tx : ℕ) → HasHistory first s → number_of s < tx → is_used first s.commits tx ≡ false
unused first s tx has lt = ap (λ b. b || is_some (commit_of tx s.commits)) (not_below first tx (let one = has.drawn in omega (arith, one, lt))) ∙ ap is_some (has.commits tx lt)
  where
    not_below : (a b : ℕ) → a ≤ b → nat_lt b a ≡ false
    not_below a b le = grind (arith, nat_tests)

drawn-one : (first : ℕ) (s : State) → HasHistory first s → HasHistory first (drawing s)
drawn-one first s has = fewer first s (drawing s) has refl refl (let n = next-number s.rows_opening s.drawn in omega (arith, n)) (λ q t at. at)

begun-one : (first : ℕ) (s : State) (session : ℕ) → HasHistory first s → (o : Option (ℕ × Txn)) → HasHistory first (begin s session o).1
begun-one first s session has (Some e) = has
begun-one first s session has None =
    let n = next-number s.rows_opening s.drawn in
    let fresh : is_used first s.commits (number_of (drawing s)) ≡ false = unused first s (number_of (drawing s)) has (omega (arith, n)) in
    let made = put first (drawing s) (number_of (drawing s)) (new_txn (tables_of s)) (drawn-one first s has) (omega arith) (length s.commits, past-last [] s.commits) (λ live. begun-txn first s.commits (number_of (drawing s)) has.history fresh) in
    record { drawn = made.drawn; commits = made.commits; numbers = made.numbers; history = made.history; bases = made.bases; transactions = made.transactions; backups = made.backups }

-- STATEMENT

abbrev IsOf : ℕ → List Commit → ℕ → Txn → Type 0
IsOf first cs tx t = IsTransaction first cs tx t.base t.copy t.named t.next

-- what is evaluated
pub evaluated-one : Stated → (first : ℕ) (cs : List Commit) (base copy : Tables) (names more : List (List ℕ)) (next : ℕ) (stmt : Stmt) (context : Context) → IsTransaction first cs context.tx base copy names next
    → ((name : List ℕ) → is_among more name ≡ false → (is_among names name ≡ false) × (is_among (named_by stmt) name ≡ false))
    → IsTransaction first cs context.tx base (evaluated copy stmt context next).tables more (evaluated copy stmt context next).next
unfolding evaluated
evaluated-one law first cs base copy names more next stmt context txn among = by stmt among (λ after is. law first cs base copy names more next stmt context after txn is (λ name none. ((among name none).0, changed-named stmt name (among name none).1)))
  where
    same : IsTransaction first cs context.tx base copy more next
    same = more-named first cs context.tx base copy names more next txn (λ name none. (among name none).0)

    changes : (defines : Bool) (o : Result Changed SqlFault) → ((after : Changed) → o ≡ Ok after → IsTransaction first cs context.tx base after.tables more after.next)
        → IsTransaction first cs context.tx base (after_change copy defines next o).tables more (after_change copy defines next o).next
    changes defines (Ok after) made = made after refl
    changes defines (Err fault) made = same

    by : (x : Stmt) → ((name : List ℕ) → is_among more name ≡ false → (is_among names name ≡ false) × (is_among (named_by x) name ≡ false)) → ((after : Changed) → change copy x context next ≡ Ok after → IsTransaction first cs context.tx base after.tables more after.next)
        → IsTransaction first cs context.tx base (evaluated copy x context next).tables more (evaluated copy x context next).next
    by statements.Begin of made = changes (is_definition statements.Begin) (change copy statements.Begin context next) made
    by statements.Commit of made = changes (is_definition statements.Commit) (change copy statements.Commit context next) made
    by statements.Rollback of made = changes (is_definition statements.Rollback) (change copy statements.Rollback context next) made
    by (statements.CreateTable n columns) of made = changes true (change copy (statements.CreateTable n columns) context next) made
    by (statements.DropTable n) of made = changes true (change copy (statements.DropTable n) context next) made
    by (statements.Insert n columns tuples) of made = changes false (change copy (statements.Insert n columns tuples) context next) made
    by (statements.Update n sets filter) of made = changes false (change copy (statements.Update n sets filter) context next) made
    by (statements.Delete n filter) of made = changes false (change copy (statements.Delete n filter) context next) made
    by (statements.Select q) of made = query (select copy q context)
      where
        query : (o : Result _ SqlFault) → IsTransaction first cs context.tx base (after_select copy next o).tables more (after_select copy next o).next
        query (Ok rows) = same
        query (Err fault) = same

by-evaluated : (first : ℕ) (cs : List Commit) (s : State) (tx : ℕ) (t : Txn) (e : Evaluated) → IsOf first cs tx t → IsTransaction first cs tx t.base e.tables t.named e.next → IsOf first cs tx (by_evaluated s tx t e).1
by-evaluated first cs s tx t e before after = by e.refused (same_moved (moved_of t) (moved_of (made_by t e)))
  where
    claim : (o : Option Refusal) → IsOf first cs tx (claimed s e.answer t (made_by t e) o).1
    claim (Some why) = before
    claim None = after

    by : (r m : Bool) → IsOf first cs tx (cond r (e.answer, t) (cond m (e.answer, (made_by t e)) (claimed s e.answer t (made_by t e) (claim_refusal s tx (made_by t e))))).1
    by true m = before
    by false true = after
    by false false = claim (claim_refusal s tx (made_by t e))

stated-one : Stated → (first : ℕ) (cs : List Commit) (s : State) (tx : ℕ) (t : Txn) (stmt : Stmt) → IsOf first cs tx t → IsOf first cs tx (statement s tx t stmt).1
stated-one law first cs s tx t stmt txn =
    let more = with_names t.named (named_by stmt) in
    by-evaluated first cs s tx (record t { named = more }) (evaluated t.copy stmt (context_of s tx) t.next)
    (more-named first cs tx t.base t.copy t.named more t.next txn (λ name none. (names-apart t.named (named_by stmt) name none).0))
    (evaluated-one law first cs t.base t.copy t.named more t.next stmt (context_of s tx) txn (λ name none. names-apart t.named (named_by stmt) name none))

evaluated-phase : (s : State) (tx : ℕ) (t : Txn) (e : Evaluated) → (by_evaluated s tx t e).1.phase ≡ t.phase
evaluated-phase s tx t e = by e.refused (same_moved (moved_of t) (moved_of (made_by t e)))
  where
    claim : (o : Option Refusal) → (claimed s e.answer t (made_by t e) o).1.phase ≡ t.phase
    claim (Some why) = refl
    claim None = refl

    by : (r m : Bool) → (cond r (e.answer, t) (cond m (e.answer, (made_by t e)) (claimed s e.answer t (made_by t e) (claim_refusal s tx (made_by t e))))).1.phase ≡ t.phase
    by true m = refl
    by false true = refl
    by false false = claim (claim_refusal s tx (made_by t e))

pub statement-phase : (s : State) (tx : ℕ) (t : Txn) (stmt : Stmt) → (statement s tx t stmt).1.phase ≡ t.phase
statement-phase s tx t stmt = evaluated-phase s tx (record t { named = with_names t.named (named_by stmt) }) (evaluated t.copy stmt (context_of s tx) t.next)

evaluated-base : (s : State) (tx : ℕ) (t : Txn) (e : Evaluated) → (by_evaluated s tx t e).1.base ≡ t.base
evaluated-base s tx t e = by e.refused (same_moved (moved_of t) (moved_of (made_by t e)))
  where
    claim : (o : Option Refusal) → (claimed s e.answer t (made_by t e) o).1.base ≡ t.base
    claim (Some why) = refl
    claim None = refl

    by : (r m : Bool) → (cond r (e.answer, t) (cond m (e.answer, (made_by t e)) (claimed s e.answer t (made_by t e) (claim_refusal s tx (made_by t e))))).1.base ≡ t.base
    by true m = refl
    by false true = refl
    by false false = claim (claim_refusal s tx (made_by t e))

statement-base : (s : State) (tx : ℕ) (t : Txn) (stmt : Stmt) → (statement s tx t stmt).1.base ≡ t.base
statement-base s tx t stmt = evaluated-base s tx (record t { named = with_names t.named (named_by stmt) }) (evaluated t.copy stmt (context_of s tx) t.next)

more-base : (d : Commit) (cs : List Commit) (base : Tables) → (n : ℕ) × (past [] cs n ≡ Some base) → (n : ℕ) × (past [] (cs ++ d ∷ []) n ≡ Some base)
more-base d cs base of = (of.0, past-more [] d cs of.0 base of.1)

-- backups stand behind one more commit
more-past : (d : Commit) (cs : List Commit) (bs : List Backup) → All (OfPast cs) bs → All (OfPast (cs ++ d ∷ [])) bs
more-past d cs bs all = All-from_recursion (OfPast (cs ++ d ∷ [])) bs (by bs (recursion_from_All (OfPast cs) bs all))
  where
    by : (bs : List Backup) → AllByRecursion (OfPast cs) bs → AllByRecursion (OfPast (cs ++ d ∷ [])) bs
    by [] each = tt
    by (b ∷ bs) each = (past-more [] d cs b.commit b.tables each.0, by bs each.1)

too-far : (a b c : ℕ) → a < b → b ≡ c → c ≤ a → ⊥
too-far a b c lt is le = omega (arith, lt, is, le)

-- THE OTHER STEPS of a transaction
module _ (first : ℕ) (s : State) (has : HasHistory first s) (tx : ℕ) (t : Txn) (at : maps.get s.txs tx ≡ Some t) where
  on-ended : (session : ℕ) → HasHistory first (ended s session tx)
  on-ended session = fewer first s (ended s session tx) has refl refl (omega arith) (λ q x is. gone-was s tx q x is)

  on-finished : (session : ℕ) → HasHistory first (ended (settled_by s t) session tx)
  on-finished session = fewer first s (ended (settled_by s t) session tx) has refl refl (omega arith) (λ q x is. gone-was s tx q x is)

  on-prepare : (session : ℕ) (p : Phase) → t.phase ≡ p → HasHistory first (on_txn s (steps.Prepare session) tx t p).1
  on-prepare session phases.Active is = by (prepare_refusal s t)
    where
      by : (o : Option Refusal) → HasHistory first (voted s tx t o).1
      by (Some why) = has
      by None = put first s tx (with_phase t phases.Prepared) has (has.numbers tx t at) (has.bases tx t at) (λ live. has.transactions tx t at (ap is_decided is))
  on-prepare session phases.Prepared is = has
  on-prepare session phases.Decided is = has
  on-prepare session phases.Finished is = has
  on-prepare session phases.Dropped is = has

  on-committed : t.phase ≡ phases.Prepared → conflict t.base (tables_of s) t.named ≡ None → HasHistory first (committed s tx t)
  on-committed is none =
      let txn : IsOf first s.commits tx t = has.transactions tx t at (ap is_decided is) in
      let new : commit_of tx s.commits ≡ None = unused-none first s.commits tx txn.unused in
      let le : tx ≤ number_of s = has.numbers tx t at in
      record {
        drawn = has.drawn;
        commits = λ q lt. commit_of-there (commit_by s tx t) q s.commits new (λ (e : q ≡ tx). too-far (number_of s) q tx lt e le) ∙ has.commits q lt;
        numbers = λ q x there. ⊎_elim
            (λ (e : q ≡ tx). (omega (arith, le, e)))
            (λ (other : q ≢ tx). has.numbers q x (sym (get-there s.txs tx (with_phase t phases.Decided) q other) ∙ there))
            (cases_eq q tx);
        history = goes-on first s.commits (commit_by s tx t) has.history
            (merge-follows first s.commits tx t.base t.copy t.named t.next has.history txn (current t.base (tables_of s) t.named none) (commit_by s tx t) refl refl);
        bases = λ q x there. more-base (commit_by s tx t) s.commits x.base (⊎_elim
            (λ (e : q ≡ tx). subst (λ (y : Txn). (n : ℕ) × (past [] s.commits n ≡ Some y.base)) (some_same (with_phase t phases.Decided) x (sym (get-here s.txs tx (with_phase t phases.Decided)) ∙ ap (maps.get (maps.insert s.txs tx (with_phase t phases.Decided))) (sym e) ∙ there)) (has.bases tx t at))
            (λ (other : q ≢ tx). has.bases q x (sym (get-there s.txs tx (with_phase t phases.Decided) q other) ∙ there))
            (cases_eq q tx));
        transactions = λ q x there live. ⊎_elim
            (λ (e : q ≡ tx).
            let same : with_phase t phases.Decided ≡ x = some_same (with_phase t phases.Decided) x (sym (get-here s.txs tx (with_phase t phases.Decided)) ∙ ap (maps.get (maps.insert s.txs tx (with_phase t phases.Decided))) (sym e) ∙ there) in
            absurd (false_true (sym (ap (λ (y : Txn). is_decided y.phase) same ∙ live))))
            (λ (other : q ≢ tx). others first s.commits (commit_by s tx t) q x.base x.copy x.named x.next
            (has.transactions q x (sym (get-there s.txs tx (with_phase t phases.Decided) q other) ∙ there) live) new other)
            (cases_eq q tx);
        backups = more-past (commit_by s tx t) s.commits s.backups has.backups;
      }

  on-decide : (session : ℕ) (p : Phase) → t.phase ≡ p → HasHistory first (on_txn s (steps.Decide session) tx t p).1
  on-decide session phases.Active is = has
  on-decide session phases.Prepared is = by (same_tables t.base t.copy)
    where
      conflicts : (o : Option Refusal) → conflict t.base (tables_of s) t.named ≡ o → HasHistory first (by_conflict s session tx t o).1
      conflicts (Some why) e = on-ended session
      conflicts None e = on-committed is e

      by : (b : Bool) → HasHistory first (cond b (answers.Done, ended s session tx) (by_conflict s session tx t (conflict t.base (tables_of s) t.named))).1
      by true = on-ended session
      by false = conflicts (conflict t.base (tables_of s) t.named) refl
  on-decide session phases.Decided is = has
  on-decide session phases.Finished is = has
  on-decide session phases.Dropped is = has

  on-stated : Stated → (stmt : Stmt) → HasHistory first (with_txn s tx (statement s tx t stmt).1)
  on-stated law stmt = put first s tx (statement s tx t stmt).1 has (has.numbers tx t at) (subst (λ ts. (n : ℕ) × (past [] s.commits n ≡ Some ts)) (sym (statement-base s tx t stmt)) (has.bases tx t at))
      (λ live. stated-one law first s.commits s tx t stmt (has.transactions tx t at (ap is_decided (sym (statement-phase s tx t stmt)) ∙ live)))

-- RESTORE

all-get : (P : Backup → Type 0) (bs : List Backup) (n : ℕ) (b : Backup) → AllByRecursion P bs → slice_get bs n ≡ Some b → P b
all-get P [] n b each is = absurd (none_some b is)
all-get P (x ∷ xs) zero b each is = subst P (some_same x b is) each.0
all-get P (x ∷ xs) (suc n) b each is = all-get P xs n b each.1 is

target-past : (first : ℕ) (s : State) → HasHistory first s → (t : Target) (target : Tables) → target_tables s t ≡ Some target → (n : ℕ) × (past [] s.commits n ≡ Some target)
target-past first s has (targets.Commit n) target is = (n, is)
target-past first s has (targets.Backup zero) target is = absurd (none_some target is)
target-past first s has (targets.Backup (suc n)) target is = by (slice_get s.backups n) refl is
  where
    by : (o : Option Backup) → slice_get s.backups n ≡ o → tables_in o ≡ Some target → (m : ℕ) × (past [] s.commits m ≡ Some target)
    by None found is = absurd (none_some target is)
    by (Some b) found is = (b.commit, all-get (OfPast s.commits) s.backups n b (recursion_from_All (OfPast s.commits) s.backups has.backups) found ∙ ap (λ (ts : Tables). Some ts) (some_same b.tables target is))

abbrev restored_commit : State → Tables → Commit
restored_commit s target = commit_to s.commits (number_of (drawing s)) (has_links (restore_moved s (restore_to s target))) (restore_to s target)

on-restored : (first : ℕ) (s : State) → HasHistory first s → (target : Tables) (n : ℕ) → past [] s.commits n ≡ Some target → HasHistory first (restored_state s (restore_to s target))
on-restored first s has target n is =
    let next = next-number s.rows_opening s.drawn in
    let new : commit_of (number_of (drawing s)) s.commits ≡ None = has.commits (number_of (drawing s)) (omega (arith, next)) in
    record {
      drawn = (let one = has.drawn in omega (arith, one, next));
      commits = λ q lt. commit_of-there (restored_commit s target) q s.commits new (λ (e : q ≡ number_of (drawing s)). too-far (number_of (drawing s)) q (number_of (drawing s)) lt e (omega arith)) ∙ has.commits q (omega (arith, next, lt));
      numbers = λ q x there. (let one = has.numbers q x there in omega (arith, one, next));
      history = goes-on first s.commits (restored_commit s target) has.history
          (restore-follows first s.commits (without_lost (lost_to s target) target) (restored_commit s target) has.history (past-follows first s.commits n target (lost_to s target) has.history is) refl);
      bases = λ q x there. more-base (restored_commit s target) s.commits x.base (has.bases q x there);
      transactions = λ q x there live. others first s.commits (restored_commit s target) q x.base x.copy x.named x.next (has.transactions q x there live) new
          (λ (e : q ≡ number_of (drawing s)). too-far (number_of s) (number_of (drawing s)) q (omega (arith, next)) (sym e) (has.numbers q x there));
      backups = more-past (restored_commit s target) s.commits s.backups has.backups;
    }

on-restore : (first : ℕ) (s : State) → HasHistory first s → (t : Target) → HasHistory first (restore s t (first_session s)).1
on-restore first s has t = by (first_session s)
  where
    at : (target : Tables) → target_tables s t ≡ Some target → (o : Option (List ℕ)) → HasHistory first (restore_at s target o).1
    at target is (Some path) = has
    at target is None = let of = target-past first s has t target is in on-restored first s has target of.0 of.1

    found : (o : Option Tables) → target_tables s t ≡ o → HasHistory first (restore_found s t o).1
    found None is = has
    found (Some target) is = at target is (in_the_way s.files s.copies (gives (tables_of s) target) (filter (λ l. not (lost_to s target l)) (takes (tables_of s) target)))

    idle : (o : Option (ℕ × Txn)) → HasHistory first (restore_idle s t o).1
    idle (Some e) = has
    idle None = found (target_tables s t) refl

    by : (o : Option ℕ) → HasHistory first (restore s t o).1
    by (Some session) = has
    by None = idle (unfinished s)

-- BACKUP

on-backup : (first : ℕ) (s : State) → HasHistory first s → HasHistory first (back_up s (unfinished s)).1
on-backup first s has = by (unfinished s)
  where
    one : All (OfPast s.commits) (s.backups ++ record { commit = length s.commits; tables = tables_of s } ∷ [])
    one = All-append (OfPast s.commits) s.backups (record { commit = length s.commits; tables = tables_of s } ∷ []) has.backups (All-from_recursion (OfPast s.commits) (record { commit = length s.commits; tables = tables_of s } ∷ []) (past-last [] s.commits, tt))

    at : (ls : List LinkRow) → HasHistory first (back_up_at s ls).1
    at [] = record { drawn = has.drawn; commits = has.commits; numbers = has.numbers; history = has.history; bases = has.bases; transactions = has.transactions; backups = one }
    at (l ∷ ls) = has

    by : (o : Option (ℕ × Txn)) → HasHistory first (back_up s o).1
    by None = at (pending s)
    by (Some e) = has

next-opening : (o d : ℕ) → d < 2 ^ 32 → o * 2 ^ 32 + d ≤ (o + 1) * 2 ^ 32 + 0
next-opening o d lt = omega (arith, lt)

-- THE HISTORY IS KEPT
pub history-kept : Stated → (first : ℕ) (s : State) (x : Step) → HasHistory first s → HasSessions s → HasHistory first (step s x).1
unfolding step
history-kept law first s (steps.Begin session) has sessions = begun-one first s session has (txn_of s session)
history-kept law first s (steps.Statement session stmt) has sessions = with-session (HasHistory first) s session (steps.Statement session stmt) has (λ tx t at of. at-statement (HasHistory first) s has tx t session stmt t.phase (on-stated first s has tx t at law stmt))
history-kept law first s (steps.Prepare session) has sessions = with-session (HasHistory first) s session (steps.Prepare session) has (λ tx t at of. on-prepare first s has tx t at session t.phase refl)
history-kept law first s (steps.Decide session) has sessions = with-session (HasHistory first) s session (steps.Decide session) has (λ tx t at of. on-decide first s has tx t at session t.phase refl)
history-kept law first s (steps.Finish session) has sessions = with-session (HasHistory first) s session (steps.Finish session) has (λ tx t at of. at-finish (HasHistory first) s has tx t session t.phase (on-finished first s has tx t at session))
history-kept law first s (steps.Rollback session) has sessions = with-session (HasHistory first) s session (steps.Rollback session) has (λ tx t at of. at-rollback (HasHistory first) s has tx t session t.phase (on-ended first s has tx t at session))
history-kept law first s (steps.File cmd) has sessions = at-file (HasHistory first) s has cmd (λ files. fewer first s (record s { files = files }) has refl refl (omega arith) (λ q t at. at))
history-kept law first s (steps.Archive n) has sessions = at-archive (HasHistory first) s has n (λ copies. fewer first s (record s { copies = copies }) has refl refl (omega arith) (λ q t at. at))
history-kept law first s steps.Backup has sessions = on-backup first s has
history-kept law first s (steps.Restore t) has sessions = on-restore first s has t
history-kept law first s (steps.Tick n) has sessions = fewer first s (step s (steps.Tick n)).1 has refl refl (omega arith) (λ q t at. at)
history-kept law first s steps.CrashManager has sessions = fewer first s (step s steps.CrashManager).1 has refl refl (omega arith) (λ q t at. at)
history-kept law first s steps.CrashDatabase has sessions = fewer first s (crash_database s) has refl refl (next-opening s.rows_opening s.drawn sessions.few) (bound-was s)
history-kept law first s steps.Resolve has sessions = fewer first s (resolve s).1 has (resolve-same (λ (x : State). x.commits) (λ x tx. refl) (λ x t. refl) s) (resolve-same (λ (x : State). x.backups) (λ x tx. refl) (λ x t. refl) s)
    (let same = resolve-same number_of (λ x tx. refl) (λ x t. refl) s in omega (arith, same)) (λ q t at. finish-all-was s.commits s q t (drop-all-was (maps.keys s.txs) (finish_all s s.commits) q t at))

-- THE BEGIN OF A RUN
pub history-start : (given : Settings) (x : Stored) → HasPast x → HasHistory (first_of x) (start given x)
history-start given x has = record {
  drawn = omega arith;
  commits = λ tx lt. has.numbers tx (omega (arith, lt));
  numbers = λ tx t at. absurd (none_some t (sym (get-empty nat_cmp tx) ∙ at));
  history = has.history;
  bases = λ tx t at. absurd (none_some t (sym (get-empty nat_cmp tx) ∙ at));
  transactions = λ tx t at live. absurd (none_some t (sym (get-empty nat_cmp tx) ∙ at));
  backups = has.backups;
}
