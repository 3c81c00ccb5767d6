-- A transaction that has voted is left as it is, up to a step that may end it.
use Rattle.std.proofs.Common.{◌≡◌, ◌≢◌, ℕ, ◌≤◌, ◌&&◌, List, [], ◌∷◌, Bool, true, false, not, cond, Option, Some, None, refl, sym, ◌∙◌, ap, subst, arith}
use Rattle.std.specs.FinMap as maps
use Rattle.std.specs.FinMap.{get-retain_keys, nat_cmp-IsAntisymmetric}
use Rattle.std.specs.Ordering.{nat_cmp}
use Rattle.std.specs.declared.cmp.Ordering.TheVariants.{Equal}
use Rattle.dl_base.specs.declared.answer.Answer.TheVariants as answers
use Rattle.dl_base.specs.declared.answer.Refusal.{Refusal}
use Rattle.dl_base.specs.declared.answer.Refusal.TheVariants as reasons
use Rattle.dl_base.specs.declared.statement.Stmt.{Stmt}
use Rattle.dl_base.specs.declared.step.Phase.{Phase}
use Rattle.dl_base.specs.declared.step.Phase.TheVariants as phases
use Rattle.dl_base.specs.declared.step.Step.{Step}
use Rattle.dl_base.specs.declared.step.Step.TheVariants as steps
use Rattle.meaning_areas.proofs.Tables.{get-here, get-there, some_same, test-same}
use Rattle.meaning_areas.specs.Commits.{Commit}
use Rattle.meaning_areas.specs.Same.{same_tables}
use Rattle.meaning_history.specs.Reached.{HasHistory}
use Rattle.meaning_settling.proofs.KeyedLaws.{false_true}
use Rattle.meaning_system.proofs.Kept.{at-archive, at-backup, at-decide, at-file, at-finish, at-restore, at-rollback, with-session}
use Rattle.meaning_system.proofs.Resolved.{gone-other}
use Rattle.meaning_system.proofs.Stepping.{next-number}
use Rattle.meaning_system.specs.Claims.{conflict, prepare_refusal, statement}
use Rattle.meaning_system.specs.Machine.{begin, by_conflict, drawing, drop_all, drop_left, finish_all, finish_left, is_bound, is_left_in, new_txn, on_session, on_txn, settled_by, step, voted, with_phase}
use Rattle.meaning_system.specs.State.{State, Txn, ended, is_active, is_decided, is_left, is_prepared, number_of, tables_of, txn_of, without_txn}
use Rattle.meaning_promises.specs.Promises.{IsDecision, IsVote, has_txn, may_end}
use Rattle.meaning_promises.proofs.Promised.{IsCommitted, none_some, not-committed, not-done}

-- A VOTE leaves its transaction prepared

on-vote : (s : State) (session tx : ℕ) (t : Txn) (p : Phase) → (on_txn s (steps.Prepare session) tx t p).0 ≡ answers.Done → maps.get (on_txn s (steps.Prepare session) tx t p).1.txs tx ≡ Some (with_phase t phases.Prepared)
on-vote s session tx t phases.Active e = by (prepare_refusal s t) e
  where
    by : (o : Option Refusal) → (voted s tx t o).0 ≡ answers.Done → maps.get (voted s tx t o).1.txs tx ≡ Some (with_phase t phases.Prepared)
    by (Some why) e = absurd (not-done why e)
    by None e = get-here s.txs tx (with_phase t phases.Prepared)
on-vote s session tx t phases.Prepared e = absurd (not-done (reasons.WrongPhase phases.Prepared) e)
on-vote s session tx t phases.Decided e = absurd (not-done (reasons.WrongPhase phases.Decided) e)
on-vote s session tx t phases.Finished e = absurd (not-done (reasons.WrongPhase phases.Finished) e)
on-vote s session tx t phases.Dropped e = absurd (not-done (reasons.WrongPhase phases.Dropped) e)

pub vote-leaves : (s : State) (session tx : ℕ) (t : Txn) → IsVote s session tx t → maps.get (step s (steps.Prepare session)).1.txs tx ≡ Some (with_phase t phases.Prepared)
unfolding step
vote-leaves s session tx t vote = by (txn_of s session) vote.whose vote.answer
  where
    by : (o : Option (ℕ × Txn)) → o ≡ Some (tx, t) → (on_session s (steps.Prepare session) o).0 ≡ answers.Done → maps.get (on_session s (steps.Prepare session) o).1.txs tx ≡ Some (with_phase t phases.Prepared)
    by None is e = absurd (none_some (tx, t) is)
    by (Some x) is e = subst (λ (y : ℕ × Txn). maps.get (on_session s (steps.Prepare session) (Some x)).1.txs y.0 ≡ Some (with_phase y.1 phases.Prepared)) (some_same x (tx, t) is) (on-vote s session x.0 x.1 x.1.phase e)

-- A DECISION leaves it decided

done-committed : (c : ℕ) → answers.Done ≡ answers.Committed c → ⊥
done-committed c e = subst IsCommitted (sym e) tt

on-decision : (s : State) (session tx c : ℕ) (t : Txn) (p : Phase) → (on_txn s (steps.Decide session) tx t p).0 ≡ answers.Committed c → maps.get (on_txn s (steps.Decide session) tx t p).1.txs tx ≡ Some (with_phase t phases.Decided)
on-decision s session tx c t phases.Active e = absurd (not-committed (reasons.WrongPhase phases.Active) c e)
on-decision s session tx c t phases.Prepared e = by (same_tables t.base t.copy) e
  where
    conflicts : (o : Option Refusal) → (by_conflict s session tx t o).0 ≡ answers.Committed c → maps.get (by_conflict s session tx t o).1.txs tx ≡ Some (with_phase t phases.Decided)
    conflicts (Some why) e = absurd (not-committed why c e)
    conflicts None e = get-here s.txs tx (with_phase t phases.Decided)

    by : (b : Bool) → (cond b (answers.Done, ended s session tx) (by_conflict s session tx t (conflict t.base (tables_of s) t.named))).0 ≡ answers.Committed c
        → maps.get (cond b (answers.Done, ended s session tx) (by_conflict s session tx t (conflict t.base (tables_of s) t.named))).1.txs tx ≡ Some (with_phase t phases.Decided)
    by true e = absurd (done-committed c e)
    by false e = conflicts (conflict t.base (tables_of s) t.named) e
on-decision s session tx c t phases.Decided e = absurd (not-committed (reasons.WrongPhase phases.Decided) c e)
on-decision s session tx c t phases.Finished e = absurd (not-committed (reasons.WrongPhase phases.Finished) c e)
on-decision s session tx c t phases.Dropped e = absurd (not-committed (reasons.WrongPhase phases.Dropped) c e)

pub decision-leaves : (s : State) (session tx c : ℕ) (t : Txn) → IsDecision s session tx t c → maps.get (step s (steps.Decide session)).1.txs tx ≡ Some (with_phase t phases.Decided)
unfolding step
decision-leaves s session tx c t decision = by (txn_of s session) decision.whose decision.answer
  where
    by : (o : Option (ℕ × Txn)) → o ≡ Some (tx, t) → (on_session s (steps.Decide session) o).0 ≡ answers.Committed c → maps.get (on_session s (steps.Decide session) o).1.txs tx ≡ Some (with_phase t phases.Decided)
    by None is e = absurd (none_some (tx, t) is)
    by (Some x) is e = subst (λ (y : ℕ × Txn). maps.get (on_session s (steps.Decide session) (Some x)).1.txs y.0 ≡ Some (with_phase y.1 phases.Decided)) (some_same x (tx, t) is) (on-decision s session x.0 c x.1 x.1.phase e)

-- ALL OTHER STEPS leave it as it is

first-of : (a b : Bool) → (a && b) ≡ true → a ≡ true
first-of true b e = refl
first-of false b e = absurd (false_true e)

-- Resolve, where a session has it
module _ (tx : ℕ) (t : Txn) where
  record Stands (y : State) : Type 0 where
    has : is_left y tx ≡ false
    there : maps.get y.txs tx ≡ Some t

  module _ (y : State) (stands : Stands y) (q : ℕ) (v : Txn) (test : Phase → Bool) where
    another : is_left_in y test (q, v) ≡ true → tx ≢ q
    another is = λ (e : tx ≡ q). false_true (sym (ap (is_left y) (sym e) ∙ stands.has) ∙ first-of (is_left y q) (test v.phase) is)

  finish-one : (y : State) (q : ℕ) → Stands y → (o : Option Txn) → Stands (finish_left y q o)
  finish-one y q stands None = stands
  finish-one y q stands (Some v) = by (is_left_in y is_decided (q, v)) refl
    where
      by : (b : Bool) → is_left_in y is_decided (q, v) ≡ b → Stands (cond b (without_txn (settled_by y v) q) y)
      by true is = record { has = stands.has; there = gone-other (settled_by y v) q tx (another y stands q v is_decided is) ∙ stands.there }
      by false is = stands

  finish-stands : (cs : List Commit) (y : State) → Stands y → Stands (finish_all y cs)
  finish-stands [] y stands = stands
  finish-stands (c ∷ cs) y stands = finish-stands cs (finish_left y c.tx (maps.get y.txs c.tx)) (finish-one y c.tx stands (maps.get y.txs c.tx))

  drop-one : (y : State) (q : ℕ) → Stands y → (o : Option Txn) → Stands (drop_left y q o)
  drop-one y q stands None = stands
  drop-one y q stands (Some v) = by (is_left_in y is_prepared (q, v)) refl
    where
      by : (b : Bool) → is_left_in y is_prepared (q, v) ≡ b → Stands (cond b (without_txn y q) y)
      by true is = record { has = stands.has; there = gone-other y q tx (another y stands q v is_prepared is) ∙ stands.there }
      by false is = stands

  drop-stands : (qs : List ℕ) (y : State) → Stands y → Stands (drop_all y qs)
  drop-stands [] y stands = stands
  drop-stands (q ∷ qs) y stands = drop-stands qs (drop_left y q (maps.get y.txs q)) (drop-one y q stands (maps.get y.txs q))

module _ (first : ℕ) (s : State) (history : HasHistory first s) (tx : ℕ) (t : Txn) (at : maps.get s.txs tx ≡ Some t) (bound : is_active t.phase ≡ false) where
  abbrev IsThere : State → Type 0
  IsThere later = maps.get later.txs tx ≡ Some t

  put-other : (q : ℕ) (v : Txn) → tx ≢ q → maps.get (maps.insert s.txs q v) tx ≡ Some t
  put-other q v other = get-there s.txs q v tx other ∙ at

  gone : (q : ℕ) → tx ≢ q → maps.get (maps.remove s.txs q) tx ≡ Some t
  gone q other = gone-other s q tx other ∙ at

  active-other : (q : ℕ) (v : Txn) → maps.get s.txs q ≡ Some v → v.phase ≡ phases.Active → tx ≢ q
  active-other q v there is = λ (e : tx ≡ q). false_true (sym bound ∙ ap (λ (x : Txn). is_active x.phase) (some_same t v (sym at ∙ ap (maps.get s.txs) e ∙ there)) ∙ ap is_active is)

  -- a session has another
  session-other : (session q : ℕ) → maps.get s.sessions session ≡ Some q → has_txn tx (maps.get s.sessions session) ≡ false → tx ≢ q
  session-other session q of none = λ (e : tx ≡ q). false_true (sym (sym (ap (has_txn tx) of) ∙ none) ∙ test-same q tx (sym e))

  on-begin : (session : ℕ) (o : Option (ℕ × Txn)) → IsThere (begin s session o).1
  on-begin session (Some x) = at
  on-begin session None = put-other (number_of (drawing s)) (new_txn (tables_of s)) (λ (e : tx ≡ number_of (drawing s)). too-far tx (history.numbers tx t at) e)
    where
      too-far : (q : ℕ) → q ≤ number_of s → q ≡ number_of (drawing s) → ⊥
      too-far q le e = let next = next-number s.rows_opening s.drawn in omega (arith, next, le, e)

  on-statement : (session : ℕ) (stmt : Stmt) (q : ℕ) (v : Txn) → maps.get s.txs q ≡ Some v → (p : Phase) → v.phase ≡ p → IsThere (on_txn s (steps.Statement session stmt) q v p).1
  on-statement session stmt q v there phases.Active is = put-other q (statement s q v stmt).1 (active-other q v there is)
  on-statement session stmt q v there phases.Prepared is = at
  on-statement session stmt q v there phases.Decided is = at
  on-statement session stmt q v there phases.Finished is = at
  on-statement session stmt q v there phases.Dropped is = at

  on-prepare : (session q : ℕ) (v : Txn) → maps.get s.txs q ≡ Some v → (p : Phase) → v.phase ≡ p → IsThere (on_txn s (steps.Prepare session) q v p).1
  on-prepare session q v there phases.Active is = by (prepare_refusal s v)
    where
      by : (o : Option Refusal) → IsThere (voted s q v o).1
      by (Some why) = at
      by None = put-other q (with_phase v phases.Prepared) (active-other q v there is)
  on-prepare session q v there phases.Prepared is = at
  on-prepare session q v there phases.Decided is = at
  on-prepare session q v there phases.Finished is = at
  on-prepare session q v there phases.Dropped is = at

  same-bound : (q x : ℕ) → nat_cmp q x ≡ Equal → is_bound (maps.get s.txs x) ≡ is_bound (maps.get s.txs q)
  same-bound q x e = ap (λ (n : ℕ). is_bound (maps.get s.txs n)) (sym (nat_cmp-IsAntisymmetric q x e))

  is-kept : is_bound (maps.get s.txs tx) ≡ true
  is-kept = ap is_bound at ∙ ap not bound

  pub stays : (x : Step) → may_end s x tx ≡ false → maps.get (step s x).1.txs tx ≡ Some t
  unfolding step
  stays (steps.Begin session) none = on-begin session (txn_of s session)
  stays (steps.Statement session stmt) none = with-session IsThere s session (steps.Statement session stmt) at (λ q v there of. on-statement session stmt q v there v.phase refl)
  stays (steps.Prepare session) none = with-session IsThere s session (steps.Prepare session) at (λ q v there of. on-prepare session q v there v.phase refl)
  stays (steps.Decide session) none = with-session IsThere s session (steps.Decide session) at
      (λ q v there of. at-decide IsThere s at q v session v.phase (gone q (session-other session q of none)) (put-other q (with_phase v phases.Decided) (session-other session q of none)))
  stays (steps.Finish session) none = with-session IsThere s session (steps.Finish session) at (λ q v there of. at-finish IsThere s at q v session v.phase (gone q (session-other session q of none)))
  stays (steps.Rollback session) none = with-session IsThere s session (steps.Rollback session) at (λ q v there of. at-rollback IsThere s at q v session v.phase (gone q (session-other session q of none)))
  stays (steps.File cmd) none = at-file IsThere s at cmd (λ files. at)
  stays (steps.Archive n) none = at-archive IsThere s at n (λ copies. at)
  stays steps.Backup none = at-backup IsThere s at (λ backups. at)
  stays (steps.Restore target) none = at-restore IsThere s at target (λ later. at)
  stays (steps.Tick n) none = at
  stays steps.CrashManager none = at
  stays steps.CrashDatabase none = get-retain_keys s.txs (λ q. is_bound (maps.get s.txs q)) tx (same-bound tx) ∙ ap (λ b. cond b (maps.get s.txs tx) None) is-kept ∙ at
  stays steps.Resolve none = (drop-stands tx t (maps.keys s.txs) (finish_all s s.commits) (finish-stands tx t s.commits s (record { has = none; there = at }))).there
