-- Each session has a transaction of its own.
use Rattle.std.proofs.Common.{◌≡◌, ◌≢◌, ◌⊎◌, ⊎_elim, inl, inr, ℕ, ◌+◌, ◌≤◌, Bool, true, false, cond, ◌==◌, Option, Some, None, is_some, refl, sym, ◌∙◌, ap, subst, arith}
use Rattle.std.proofs.lemmas.Bool.{cases_eq}
use Rattle.std.specs.Cmp.{nat_cmp_total, unsigned_tied}
use Rattle.std.specs.FinMap as maps
use Rattle.std.specs.FinMap.{get-empty}
use Rattle.std.specs.Ordering.{nat_cmp}
use Rattle.dl_base.specs.declared.step.Phase.TheVariants as phases
use Rattle.dl_base.specs.declared.step.Settings.{Settings}
use Rattle.dl_base.specs.declared.step.Step.{Step}
use Rattle.dl_base.specs.declared.step.Step.TheVariants as steps
use Rattle.meaning_areas.proofs.Tables.{get-here, get-there, some_same, test-same}
use Rattle.meaning_areas.specs.Stands.{Stored}
use Rattle.meaning_system.proofs.Kept.{at-archive, at-backup, at-decide, at-file, at-finish, at-prepare, at-restore, at-rollback, at-statement, resolve-same, with-session}
use Rattle.meaning_system.proofs.Resolved.{gone-other}
use Rattle.meaning_system.specs.Claims.{statement}
use Rattle.meaning_system.specs.Machine.{begin, begun, committed, crash_database, drawing, new_txn, resolve, restored_state, settled_by, start, step, with_phase}
use Rattle.meaning_system.specs.State.{State, Txn, ended, number_of, tables_of, txn_of, with_txn}
use Rattle.sys_core.proofs.Others.{beyond, is-next, resolved-there}
use Rattle.sys_core.specs.Sessions.{AreSeparate}

none_some : {A : Type 0} (x : A) → None ≡ Some x → ⊥
none_some x e = cc

le_self : (n : ℕ) → n ≤ n
le_self n = omega arith

le_more : (n k m : ℕ) → n ≤ k → k ≤ m → n ≤ m
le_more n k m a b = omega arith

le_next : (n m : ℕ) → m ≡ n + 1 → n ≤ m
le_next n m e = omega arith

same_number : (n m : ℕ) → m ≡ n → n ≤ m
same_number n m e = omega arith

-- the transactions of sessions are there still
abbrev AreKept : State → State → Type 0
AreKept s later = (q tx : ℕ) → maps.get later.sessions q ≡ Some tx → is_some (maps.get s.txs tx) ≡ true → is_some (maps.get later.txs tx) ≡ true

-- where sessions are the same or fewer, and no fewer numbers are drawn
separate-fewer : (s later : State) → AreSeparate s → ((q tx : ℕ) → maps.get later.sessions q ≡ Some tx → maps.get s.sessions q ≡ Some tx) → number_of s ≤ number_of later → AreKept s later → AreSeparate later
separate-fewer s later separate was more kept = record {
  one = λ a b tx at_a at_b. separate.one a b tx (was a tx at_a) (was b tx at_b);
  drawn = λ q tx at. le_more tx (number_of s) (number_of later) (separate.drawn q tx (was q tx at)) more;
  there = λ q tx at. kept q tx at (separate.there q tx (was q tx at));
}

-- where they are the same
separate-same : (s later : State) → AreSeparate s → later.sessions ≡ s.sessions → number_of s ≤ number_of later → AreKept s later → AreSeparate later
separate-same s later separate same more kept = separate-fewer s later separate (λ q tx at. ap (λ (m : maps.FinMap nat_cmp ℕ). maps.get m q) (sym same) ∙ at) more kept

-- transactions are the same, or one is put in
still-there : (s later : State) → later.txs ≡ s.txs → AreKept s later
still-there s later same q tx at there = ap (λ (m : maps.FinMap nat_cmp Txn). is_some (maps.get m tx)) same ∙ there

put-there : (txs : maps.FinMap nat_cmp Txn) (u : ℕ) (t : Txn) (tx : ℕ) → is_some (maps.get txs tx) ≡ true → is_some (maps.get (maps.insert txs u t) tx) ≡ true
put-there txs u t tx there = ⊎_elim
    (λ (e : tx ≡ u). ap (λ (n : ℕ). is_some (maps.get (maps.insert txs u t) n)) e ∙ ap is_some (get-here txs u t))
    (λ (other : tx ≢ u). ap is_some (get-there txs u t tx other) ∙ there)
    (cases_eq tx u)

put-kept : (s later : State) (u : ℕ) (t : Txn) → later.txs ≡ maps.insert s.txs u t → AreKept s later
put-kept s later u t put q tx at there = ap (λ (m : maps.FinMap nat_cmp Txn). is_some (maps.get m tx)) put ∙ put-there s.txs u t tx there

removed-was : (m : maps.FinMap nat_cmp ℕ) (session q tx : ℕ) → maps.get (maps.remove m session) q ≡ Some tx → maps.get m q ≡ Some tx
removed-was m session q tx e = by (q == session) (sym (maps.get-remove nat_cmp_total m session q ∙ ap (λ b. cond b None (maps.get m q)) (unsigned_tied q session)) ∙ e)
  where
    by : (b : Bool) → cond b None (maps.get m q) ≡ Some tx → maps.get m q ≡ Some tx
    by true is = absurd cc
    by false is = is

removed-gone : (m : maps.FinMap nat_cmp ℕ) (session tx : ℕ) → maps.get (maps.remove m session) session ≡ Some tx → ⊥
removed-gone m session tx e = none_some tx (sym (maps.get-remove nat_cmp_total m session session ∙ ap (λ b. cond b None (maps.get m session)) (unsigned_tied session session ∙ test-same session session refl)) ∙ e)

separate-ended : (s later : State) (session u : ℕ) → AreSeparate s → maps.get s.sessions session ≡ Some u → later.sessions ≡ maps.remove s.sessions session → later.txs ≡ maps.remove s.txs u → number_of s ≤ number_of later → AreSeparate later
separate-ended s later session u separate of same gone more = separate-fewer s later separate was more kept
  where
    removed : (q tx : ℕ) → maps.get later.sessions q ≡ Some tx → maps.get (maps.remove s.sessions session) q ≡ Some tx
    removed q tx at = ap (λ (m : maps.FinMap nat_cmp ℕ). maps.get m q) (sym same) ∙ at

    was : (q tx : ℕ) → maps.get later.sessions q ≡ Some tx → maps.get s.sessions q ≡ Some tx
    was q tx at = removed-was s.sessions session q tx (removed q tx at)

    -- another session has another transaction
    other : (q tx : ℕ) → maps.get later.sessions q ≡ Some tx → tx ≢ u
    other q tx at e =
        let here : q ≡ session = separate.one q session u (was q tx at ∙ ap (λ (n : ℕ). Some n) e) of in
        removed-gone s.sessions session tx (ap (maps.get (maps.remove s.sessions session)) (sym here) ∙ removed q tx at)

    kept : AreKept s later
    kept q tx at there = ap (λ (m : maps.FinMap nat_cmp Txn). is_some (maps.get m tx)) gone ∙ ap is_some (gone-other s u tx (other q tx at)) ∙ there

-- ONE THAT BEGINS has a number that no session has

module _ (s : State) (separate : AreSeparate s) (session : ℕ) where
  -- what a session has: the new number, or what it had before
  put-was : (q tx : ℕ) → maps.get (maps.insert s.sessions session (number_of (drawing s))) q ≡ Some tx → ((q ≡ session) × (tx ≡ number_of (drawing s))) ⊎ (maps.get s.sessions q ≡ Some tx)
  put-was q tx at = ⊎_elim
      (λ (e : q ≡ session). inl (e, sym (some_same (number_of (drawing s)) tx (sym (get-here s.sessions session (number_of (drawing s))) ∙ ap (maps.get (maps.insert s.sessions session (number_of (drawing s)))) (sym e) ∙ at))))
      (λ (other : q ≢ session). inr (sym (get-there s.sessions session (number_of (drawing s)) q other) ∙ at))
      (cases_eq q session)

  clash : (q tx : ℕ) → maps.get s.sessions q ≡ Some tx → tx ≡ number_of (drawing s) → ⊥
  clash q tx at e = beyond (number_of s) (number_of (drawing s)) tx (is-next s) (separate.drawn q tx at) e

  begun-separate : AreSeparate (begun s session).1
  begun-separate = record {
    one = λ a b tx at_a at_b. ⊎_elim
        (λ (x : (a ≡ session) × (tx ≡ number_of (drawing s))). ⊎_elim
        (λ (y : (b ≡ session) × (tx ≡ number_of (drawing s))). x.0 ∙ sym y.0)
        (λ (y : maps.get s.sessions b ≡ Some tx). absurd (clash b tx y x.1))
        (put-was b tx at_b))
        (λ (x : maps.get s.sessions a ≡ Some tx). ⊎_elim
        (λ (y : (b ≡ session) × (tx ≡ number_of (drawing s))). absurd (clash a tx x y.1))
        (λ (y : maps.get s.sessions b ≡ Some tx). separate.one a b tx x y)
        (put-was b tx at_b))
        (put-was a tx at_a);
    drawn = λ q tx at. ⊎_elim
        (λ (x : (q ≡ session) × (tx ≡ number_of (drawing s))). subst (λ (n : ℕ). tx ≤ n) x.1 (le_self tx))
        (λ (x : maps.get s.sessions q ≡ Some tx). le_more tx (number_of s) (number_of (drawing s)) (separate.drawn q tx x) (le_next (number_of s) (number_of (drawing s)) (is-next s)))
        (put-was q tx at);
    there = λ q tx at. ⊎_elim
        (λ (x : (q ≡ session) × (tx ≡ number_of (drawing s))). ap (λ (n : ℕ). is_some (maps.get (begun s session).1.txs n)) x.1 ∙ ap is_some (get-here s.txs (number_of (drawing s)) (new_txn (tables_of s))))
        (λ (x : maps.get s.sessions q ≡ Some tx). put-there s.txs (number_of (drawing s)) (new_txn (tables_of s)) tx (separate.there q tx x))
        (put-was q tx at);
  }

  begin-separate : (o : Option (ℕ × Txn)) → AreSeparate (begin s session o).1
  begin-separate (Some e) = separate
  begin-separate None = begun-separate

no-sessions : (s : State) → s.sessions ≡ maps.empty → AreSeparate s
no-sessions s none = record { one = λ a b tx at_a at_b. absurd (has-none a tx at_a); drawn = λ q tx at. absurd (has-none q tx at); there = λ q tx at. absurd (has-none q tx at) }
  where
    has-none : (q tx : ℕ) → maps.get s.sessions q ≡ Some tx → ⊥
    has-none q tx at = none_some tx (sym (ap (λ (m : maps.FinMap nat_cmp ℕ). maps.get m q) none ∙ get-empty nat_cmp q) ∙ at)

-- EACH STEP KEEPS IT
pub separate-kept : (s : State) (x : Step) → AreSeparate s → AreSeparate (step s x).1
unfolding step
separate-kept s (steps.Begin session) separate = begin-separate s separate session (txn_of s session)
separate-kept s (steps.Statement session stmt) separate = with-session AreSeparate s session (steps.Statement session stmt) separate
    (λ tx t at of. at-statement AreSeparate s separate tx t session stmt t.phase (separate-same s (with_txn s tx (statement s tx t stmt).1) separate refl (le_self (number_of s)) (put-kept s (with_txn s tx (statement s tx t stmt).1) tx (statement s tx t stmt).1 refl)))
separate-kept s (steps.Prepare session) separate = with-session AreSeparate s session (steps.Prepare session) separate
    (λ tx t at of. at-prepare AreSeparate s separate tx t session t.phase (separate-same s (with_txn s tx (with_phase t phases.Prepared)) separate refl (le_self (number_of s)) (put-kept s (with_txn s tx (with_phase t phases.Prepared)) tx (with_phase t phases.Prepared) refl)))
separate-kept s (steps.Decide session) separate = with-session AreSeparate s session (steps.Decide session) separate
    (λ tx t at of. at-decide AreSeparate s separate tx t session t.phase (separate-ended s (ended s session tx) session tx separate of refl refl (le_self (number_of s)))
    (separate-same s (committed s tx t) separate refl (le_self (number_of s)) (put-kept s (committed s tx t) tx (with_phase t phases.Decided) refl)))
separate-kept s (steps.Finish session) separate = with-session AreSeparate s session (steps.Finish session) separate
    (λ tx t at of. at-finish AreSeparate s separate tx t session t.phase (separate-ended s (ended (settled_by s t) session tx) session tx separate of refl refl (le_self (number_of s))))
separate-kept s (steps.Rollback session) separate = with-session AreSeparate s session (steps.Rollback session) separate
    (λ tx t at of. at-rollback AreSeparate s separate tx t session t.phase (separate-ended s (ended s session tx) session tx separate of refl refl (le_self (number_of s))))
separate-kept s (steps.File cmd) separate = at-file AreSeparate s separate cmd (λ files. separate-same s (record s { files = files }) separate refl (le_self (number_of s)) (still-there s (record s { files = files }) refl))
separate-kept s (steps.Archive key) separate = at-archive AreSeparate s separate key (λ copies. separate-same s (record s { copies = copies }) separate refl (le_self (number_of s)) (still-there s (record s { copies = copies }) refl))
separate-kept s steps.Backup separate = at-backup AreSeparate s separate (λ backups. separate-same s (record s { backups = backups }) separate refl (le_self (number_of s)) (still-there s (record s { backups = backups }) refl))
separate-kept s (steps.Restore target) separate = at-restore AreSeparate s separate target
    (λ later. separate-same s (restored_state s later) separate refl (le_next (number_of s) (number_of (drawing s)) (is-next s)) (still-there s (restored_state s later) refl))
separate-kept s (steps.Tick k) separate = separate-same s (step s (steps.Tick k)).1 separate refl (le_self (number_of s)) (still-there s (step s (steps.Tick k)).1 refl)
separate-kept s steps.CrashManager separate = separate-same s (step s steps.CrashManager).1 separate refl (le_self (number_of s)) (still-there s (step s steps.CrashManager).1 refl)
separate-kept s steps.CrashDatabase separate = no-sessions (crash_database s) refl
separate-kept s steps.Resolve separate = separate-same s (resolve s).1 separate
    (resolve-same (λ (x : State). x.sessions) (λ x tx. refl) (λ x t. refl) s)
    (same_number (number_of s) (number_of (resolve s).1) (resolve-same number_of (λ x tx. refl) (λ x t. refl) s))
    (λ q tx at there. ap is_some (resolved-there s q tx (ap (λ (m : maps.FinMap nat_cmp ℕ). maps.get m q) (sym (resolve-same (λ (x : State). x.sessions) (λ x tx. refl) (λ x t. refl) s)) ∙ at)) ∙ there)

-- A RUN BEGINS with no session
pub start-separate : (given : Settings) (x : Stored) → AreSeparate (start given x)
start-separate given x = no-sessions (start given x) refl
