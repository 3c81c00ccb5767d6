-- What a step leaves of the transactions of other sessions.
use Rattle.std.proofs.Common.{◌≡◌, ◌≢◌, ℕ, List, [], ◌∷◌, Bool, true, false, not, cond, ◌==◌, ◌&&◌, ◌||◌, Option, Some, None, refl, sym, ◌∙◌, ap, arith, ◌+◌, ◌≤◌}
use Rattle.std.specs.Cmp.{nat_cmp_total, unsigned_tied}
use Rattle.std.specs.FinMap as maps
use Rattle.std.specs.List.{list_any}
use Rattle.std.specs.Ordering.{eq_by_cmp, nat_cmp}
use Rattle.db_txn.specs.Transaction.{Transaction}
use Rattle.dl_base.specs.declared.step.Phase.TheVariants as phases
use Rattle.dl_base.specs.declared.step.Step.{Step}
use Rattle.dl_base.specs.declared.step.Step.TheVariants as steps
use Rattle.meaning_areas.proofs.Tables.{get-there, some_same, test-other, test-same}
use Rattle.meaning_areas.specs.Commits.{Commit}
use Rattle.meaning_system.proofs.Kept.{at-archive, at-backup, at-decide, at-file, at-finish, at-prepare, at-restore, at-rollback, at-statement, resolve-same, with-session}
use Rattle.meaning_system.proofs.Resolved.{both, gone-other}
use Rattle.meaning_system.proofs.Stepping.{next-number}
use Rattle.meaning_system.specs.Claims.{statement}
use Rattle.meaning_system.specs.Machine.{begin, begun, committed, drawing, drop_all, drop_left, finish_all, finish_left, is_left_in, new_txn, resolve, restored_state, settled_by, step, with_phase}
use Rattle.meaning_system.specs.State.{State, Txn, ended, is_decided, is_left, is_prepared, number_of, numbered_txn, tables_of, txn_at, txn_of, with_txn, without_txn}
use Rattle.sys_core.specs.Seated.{HasTxn, shown_by}
use Rattle.sys_core.specs.Sessions.{AreSeparate, IsOther}

-- a session has the same transaction in two states
abbrev Left : State → ℕ → State → Type 0
Left s n later = txn_of later n ≡ txn_of s n

left-by : (s later : State) (n : ℕ) → maps.get later.sessions n ≡ maps.get s.sessions n → ((u : ℕ) → maps.get s.sessions n ≡ Some u → maps.get later.txs u ≡ maps.get s.txs u) → Left s n later
left-by s later n sessions txs = ap (txn_at later) sessions ∙ by (maps.get s.sessions n) refl
  where
    by : (o : Option ℕ) → maps.get s.sessions n ≡ o → txn_at later o ≡ txn_at s o
    by None at = refl
    by (Some u) at = ap (numbered_txn u) (txs u at)

-- where neither sessions nor transactions change
left-same : (s later : State) (n : ℕ) → later.sessions ≡ s.sessions → later.txs ≡ s.txs → Left s n later
left-same s later n sessions txs = left-by s later n (ap (λ (m : maps.FinMap nat_cmp ℕ). maps.get m n) sessions) (λ u at. ap (λ (m : maps.FinMap nat_cmp Txn). maps.get m u) txs)

turned : {A : Type 0} (x y : A) → x ≢ y → y ≢ x
turned x y other = λ e. other (sym e)

-- A STEP OF ANOTHER SESSION on its transaction, whose number is another

module _ (s : State) (separate : AreSeparate s) (n session : ℕ) (other : session ≢ n) (tx : ℕ) (of : maps.get s.sessions session ≡ Some tx) where
  not-it : (u : ℕ) → maps.get s.sessions n ≡ Some u → u ≢ tx
  not-it u at = λ (e : u ≡ tx). other (separate.one session n tx of (at ∙ ap (λ (m : ℕ). Some m) e))

  left-put : (later : State) (t : Txn) → later.sessions ≡ s.sessions → later.txs ≡ maps.insert s.txs tx t → Left s n later
  left-put later t sessions txs = left-by s later n (ap (λ (m : maps.FinMap nat_cmp ℕ). maps.get m n) sessions)
      (λ u at. ap (λ (m : maps.FinMap nat_cmp Txn). maps.get m u) txs ∙ get-there s.txs tx t u (not-it u at))

  left-ended : (later : State) → later.sessions ≡ maps.remove s.sessions session → later.txs ≡ maps.remove s.txs tx → Left s n later
  left-ended later sessions txs = left-by s later n
      (ap (λ (m : maps.FinMap nat_cmp ℕ). maps.get m n) sessions
      ∙ maps.get-remove nat_cmp_total s.sessions session n
      ∙ ap (λ b. cond b None (maps.get s.sessions n)) (unsigned_tied n session ∙ test-other n session (turned session n other)))
      (λ u at. ap (λ (m : maps.FinMap nat_cmp Txn). maps.get m u) txs ∙ gone-other s tx u (not-it u at))

-- one that begins has a new number

pub beyond : (n m u : ℕ) → m ≡ n + 1 → u ≤ n → u ≡ m → ⊥
beyond n m u next le e = omega arith

pub is-next : (s : State) → number_of (drawing s) ≡ number_of s + 1
is-next s = next-number s.rows_opening s.drawn

new-number : (s : State) (u : ℕ) → u ≤ number_of s → u ≢ number_of (drawing s)
new-number s u le = λ (e : u ≡ number_of (drawing s)). beyond (number_of s) (number_of (drawing s)) u (is-next s) le e

left-begin : (s : State) → AreSeparate s → (n session : ℕ) → session ≢ n → (o : Option (ℕ × Txn)) → Left s n (begin s session o).1
left-begin s separate n session other (Some e) = refl
left-begin s separate n session other None = left-by s (begun s session).1 n
    (get-there s.sessions session (number_of (drawing s)) n (turned session n other))
    (λ u at. get-there s.txs (number_of (drawing s)) (new_txn (tables_of s)) u (new-number s u (separate.drawn n u at)))

-- RESOLVE takes away none that a session has

false_true : false ≡ true → ⊥
false_true e = cc

right : (a b : Bool) → b ≡ true → (a || b) ≡ true
right true b e = refl
right false b e = e

found-any : (n u : ℕ) (es : List (ℕ × ℕ)) → maps.find nat_cmp n es ≡ Some u → list_any (λ e. e.1 == u) es ≡ true
found-any n u [] at = absurd cc
found-any n u (e ∷ es) at = by (found-any n u es) (eq_by_cmp nat_cmp n e.0) at
  where
    by : (maps.find nat_cmp n es ≡ Some u → list_any (λ x. x.1 == u) es ≡ true) → (b : Bool) → cond b (Some e.1) (maps.find nat_cmp n es) ≡ Some u → ((e.1 == u) || list_any (λ x. x.1 == u) es) ≡ true
    by rest true here = ap (λ b. b || list_any (λ x. x.1 == u) es) (test-same e.1 u (some_same e.1 u here))
    by rest false there = right (e.1 == u) (list_any (λ x. x.1 == u) es) (rest there)

not-left : (s : State) (n u : ℕ) → maps.get s.sessions n ≡ Some u → is_left s u ≡ false
not-left s n u at = ap not (found-any n u (maps.entries s.sessions) (sym (maps.get-entries s.sessions n) ∙ at))

-- one that is left is another
apart : (s : State) (n u tx : ℕ) (b : Bool) → maps.get s.sessions n ≡ Some u → (is_left s tx && b) ≡ true → u ≢ tx
apart s n u tx b at is = λ (e : u ≡ tx). false_true (sym (not-left s n u at) ∙ ap (is_left s) e ∙ (both (is_left s tx) b is).0)

finish-left-keeps : (s : State) (n u tx : ℕ) (o : Option Txn) → maps.get s.sessions n ≡ Some u → ((finish_left s tx o).sessions ≡ s.sessions) × (maps.get (finish_left s tx o).txs u ≡ maps.get s.txs u)
finish-left-keeps s n u tx None at = (refl, refl)
finish-left-keeps s n u tx (Some t) at = by (is_left_in s is_decided (tx, t)) refl
  where
    by : (b : Bool) → is_left_in s is_decided (tx, t) ≡ b
        → ((cond b (without_txn (settled_by s t) tx) s).sessions ≡ s.sessions) × (maps.get (cond b (without_txn (settled_by s t) tx) s).txs u ≡ maps.get s.txs u)
    by true is = (refl, gone-other s tx u (apart s n u tx (is_decided t.phase) at is))
    by false is = (refl, refl)

drop-left-keeps : (s : State) (n u tx : ℕ) (o : Option Txn) → maps.get s.sessions n ≡ Some u → ((drop_left s tx o).sessions ≡ s.sessions) × (maps.get (drop_left s tx o).txs u ≡ maps.get s.txs u)
drop-left-keeps s n u tx None at = (refl, refl)
drop-left-keeps s n u tx (Some t) at = by (is_left_in s is_prepared (tx, t)) refl
  where
    by : (b : Bool) → is_left_in s is_prepared (tx, t) ≡ b
        → ((cond b (without_txn s tx) s).sessions ≡ s.sessions) × (maps.get (cond b (without_txn s tx) s).txs u ≡ maps.get s.txs u)
    by true is = (refl, gone-other s tx u (apart s n u tx (is_prepared t.phase) at is))
    by false is = (refl, refl)

still : (m k : maps.FinMap nat_cmp ℕ) (n u : ℕ) → m ≡ k → maps.get k n ≡ Some u → maps.get m n ≡ Some u
still m k n u same at = ap (λ (x : maps.FinMap nat_cmp ℕ). maps.get x n) same ∙ at

finish-all-keeps : (cs : List Commit) (s : State) (n u : ℕ) → maps.get s.sessions n ≡ Some u → ((finish_all s cs).sessions ≡ s.sessions) × (maps.get (finish_all s cs).txs u ≡ maps.get s.txs u)
finish-all-keeps [] s n u at = (refl, refl)
finish-all-keeps (c ∷ cs) s n u at =
    let next : State = finish_left s c.tx (maps.get s.txs c.tx) in
    let one = finish-left-keeps s n u c.tx (maps.get s.txs c.tx) at in
    let rest = finish-all-keeps cs next n u (still next.sessions s.sessions n u one.0 at) in
    (rest.0 ∙ one.0, rest.1 ∙ one.1)

drop-all-keeps : (txs : List ℕ) (s : State) (n u : ℕ) → maps.get s.sessions n ≡ Some u → maps.get (drop_all s txs).txs u ≡ maps.get s.txs u
drop-all-keeps [] s n u at = refl
drop-all-keeps (tx ∷ txs) s n u at =
    let next : State = drop_left s tx (maps.get s.txs tx) in
    let one = drop-left-keeps s n u tx (maps.get s.txs tx) at in
    drop-all-keeps txs next n u (still next.sessions s.sessions n u one.0 at) ∙ one.1

pub resolved-there : (s : State) (n u : ℕ) → maps.get s.sessions n ≡ Some u → maps.get (resolve s).1.txs u ≡ maps.get s.txs u
resolved-there s n u at =
    let all = finish-all-keeps s.commits s n u at in
    drop-all-keeps (maps.keys s.txs) (finish_all s s.commits) n u (still (finish_all s s.commits).sessions s.sessions n u all.0 at) ∙ all.1

left-resolved : (s : State) (n : ℕ) → Left s n (resolve s).1
left-resolved s n =
    left-by s (resolve s).1 n (ap (λ (m : maps.FinMap nat_cmp ℕ). maps.get m n) (resolve-same (λ (x : State). x.sessions) (λ x tx. refl) (λ x t. refl) s)) (resolved-there s n)

-- EACH STEP
left-behind : (s : State) (x : Step) (n : ℕ) → AreSeparate s → IsOther x n → Left s n (step s x).1
unfolding step
left-behind s (steps.Begin session) n separate other = left-begin s separate n session other (txn_of s session)
left-behind s (steps.Statement session stmt) n separate other = with-session (Left s n) s session (steps.Statement session stmt) refl
    (λ tx t at of. at-statement (Left s n) s refl tx t session stmt t.phase (left-put s separate n session other tx of (with_txn s tx (statement s tx t stmt).1) (statement s tx t stmt).1 refl refl))
left-behind s (steps.Prepare session) n separate other = with-session (Left s n) s session (steps.Prepare session) refl
    (λ tx t at of. at-prepare (Left s n) s refl tx t session t.phase (left-put s separate n session other tx of (with_txn s tx (with_phase t phases.Prepared)) (with_phase t phases.Prepared) refl refl))
left-behind s (steps.Decide session) n separate other = with-session (Left s n) s session (steps.Decide session) refl
    (λ tx t at of. at-decide (Left s n) s refl tx t session t.phase (left-ended s separate n session other tx of (ended s session tx) refl refl) (left-put s separate n session other tx of (committed s tx t) (with_phase t phases.Decided) refl refl))
left-behind s (steps.Finish session) n separate other = with-session (Left s n) s session (steps.Finish session) refl
    (λ tx t at of. at-finish (Left s n) s refl tx t session t.phase (left-ended s separate n session other tx of (ended (settled_by s t) session tx) refl refl))
left-behind s (steps.Rollback session) n separate other = with-session (Left s n) s session (steps.Rollback session) refl
    (λ tx t at of. at-rollback (Left s n) s refl tx t session t.phase (left-ended s separate n session other tx of (ended s session tx) refl refl))
left-behind s (steps.File cmd) n separate other = at-file (Left s n) s refl cmd (λ files. left-same s (record s { files = files }) n refl refl)
left-behind s (steps.Archive key) n separate other = at-archive (Left s n) s refl key (λ copies. left-same s (record s { copies = copies }) n refl refl)
left-behind s steps.Backup n separate other = at-backup (Left s n) s refl (λ backups. left-same s (record s { backups = backups }) n refl refl)
left-behind s (steps.Restore target) n separate other = at-restore (Left s n) s refl target (λ later. left-same s (restored_state s later) n refl refl)
left-behind s (steps.Tick k) n separate other = left-same s (step s (steps.Tick k)).1 n refl refl
left-behind s steps.CrashManager n separate other = left-same s (step s steps.CrashManager).1 n refl refl
left-behind s steps.CrashDatabase n separate other = absurd other
left-behind s steps.Resolve n separate other = left-resolved s n

pub others-left : (s : State) (x : Step) (v : Transaction) → AreSeparate s → IsOther x v.session → HasTxn s v → HasTxn (step s x).1 v
others-left s x v separate other has = has ∙ ap (shown_by v.session) (sym (left-behind s x v.session separate other))
