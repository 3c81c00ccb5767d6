-- No step sets the last number back, and what is drawn is greater than what was drawn before.
use Rattle.std.proofs.Common.{◌≡◌, ℕ, zero, suc, ◌+◌, ◌-◌, ◌*◌, ◌^◌, ◌<◌, ◌≤◌, List, [], ◌∷◌, ◌++◌, length, Option, Some, None, refl, sym, ◌∙◌, ap, subst, arith}
use Rattle.std.proofs.lemmas.List.{length_push}
use Rattle.dl_base.specs.declared.answer.Answer.TheVariants as answers
use Rattle.dl_base.specs.declared.answer.Refusal.TheVariants as reasons
use Rattle.dl_base.specs.declared.step.Settings.{Settings}
use Rattle.dl_base.specs.declared.step.Step.{Step}
use Rattle.dl_base.specs.declared.step.Step.TheVariants as steps
use Rattle.dl_base.specs.declared.step.Target.{Target}
use Rattle.meaning_areas.specs.Commits.{Commit, commit_to}
use Rattle.meaning_run.specs.Running.{Run, after, next_step, turn}
use Rattle.meaning_run.proofs.Turns.{after-after}
use Rattle.meaning_system.proofs.Kept.{at-archive, at-backup, at-decide, at-file, at-finish, at-prepare, at-restore, at-rollback, at-statement, resolve-same, with-session}
use Rattle.meaning_system.proofs.Stepping.{next-number}
use Rattle.meaning_system.specs.Machine.{begin, drawing, restore_moved, start, step}
use Rattle.meaning_system.specs.State.{State, Txn, has_links, number_of, stored, txn_of}
use Rattle.meaning_promises.specs.Promises.{Draws}
use Rattle.meaning_promises.proofs.Staying.{next-le, rest, state-by, step-behind, turn-state}
use Rattle.meaning_promises.proofs.Unstopped.{GoesOn, IsNoStop, no-stop}
use Rattle.meaning_promises.proofs.Unused.{number_in, refused-begun}

le-self : (n : ℕ) → n ≤ n
le-self n = omega arith

through : (a b c : ℕ) → a ≤ b → b ≤ c → a ≤ c
through a b c le more = omega (arith, le, more)

one-less : (n next : ℕ) → next ≡ n + 1 → n < next
one-less n next is = omega (arith, is)

less-le : (a b : ℕ) → a < b → a ≤ b
less-le a b lt = omega (arith, lt)

next-opening : (o d : ℕ) → d ≤ 2 ^ 32 → o * 2 ^ 32 + d ≤ (o + 1) * 2 ^ 32 + 0
next-opening o d room = omega (arith, room)

-- A STEP
module _ (s : State) where
  abbrev IsOn : State → Type 0
  IsOn later = number_of s ≤ number_of later

  same : IsOn s
  same = le-self (number_of s)

  drew : number_of s < number_of (drawing s)
  drew = one-less (number_of s) (number_of (drawing s)) (next-number s.rows_opening s.drawn)

  on-begin : (session : ℕ) (o : Option (ℕ × Txn)) → IsOn (begin s session o).1
  on-begin session (Some e) = same
  on-begin session None = less-le (number_of s) (number_of (drawing s)) drew

pub step-onward : (s : State) (x : Step) → (x ≡ steps.CrashDatabase → s.drawn ≤ 2 ^ 32) → number_of s ≤ number_of (step s x).1
unfolding step
step-onward s (steps.Begin session) room = on-begin s session (txn_of s session)
step-onward s (steps.Statement session stmt) room = with-session (IsOn s) s session (steps.Statement session stmt) (same s) (λ tx t at of. at-statement (IsOn s) s (same s) tx t session stmt t.phase (same s))
step-onward s (steps.Prepare session) room = with-session (IsOn s) s session (steps.Prepare session) (same s) (λ tx t at of. at-prepare (IsOn s) s (same s) tx t session t.phase (same s))
step-onward s (steps.Decide session) room = with-session (IsOn s) s session (steps.Decide session) (same s) (λ tx t at of. at-decide (IsOn s) s (same s) tx t session t.phase (same s) (same s))
step-onward s (steps.Finish session) room = with-session (IsOn s) s session (steps.Finish session) (same s) (λ tx t at of. at-finish (IsOn s) s (same s) tx t session t.phase (same s))
step-onward s (steps.Rollback session) room = with-session (IsOn s) s session (steps.Rollback session) (same s) (λ tx t at of. at-rollback (IsOn s) s (same s) tx t session t.phase (same s))
step-onward s (steps.File cmd) room = at-file (IsOn s) s (same s) cmd (λ files. same s)
step-onward s (steps.Archive n) room = at-archive (IsOn s) s (same s) n (λ copies. same s)
step-onward s steps.Backup room = at-backup (IsOn s) s (same s) (λ backups. same s)
step-onward s (steps.Restore target) room = at-restore (IsOn s) s (same s) target (λ later. less-le (number_of s) (number_of (drawing s)) (drew s))
step-onward s (steps.Tick n) room = same s
step-onward s steps.CrashManager room = same s
step-onward s steps.CrashDatabase room = next-opening s.rows_opening s.drawn (room refl)
step-onward s steps.Resolve room = subst (λ (n : ℕ). number_of s ≤ n) (sym (resolve-same (λ (x : State). number_of x) (λ x tx. refl) (λ x t. refl) s)) (same s)

-- and the next run over what it leaves
pub reopened : (given : Settings) (s : State) → s.drawn ≤ 2 ^ 32 → number_of s ≤ number_of (start given (stored s))
reopened given s room = next-opening s.rows_opening s.drawn room

-- WHAT IS DRAWN is the last number behind the step, and greater than the last one before it

abbrev IsNext : State → ℕ → State → Type 0
IsNext s n later = (number_of later ≡ n) × (number_of s < n)

is-next : (s : State) (n : ℕ) → number_of (drawing s) ≡ n → IsNext s n (drawing s)
is-next s n is = (is, subst (λ (m : ℕ). number_of s < m) is (drew s))

begin-draws : (s : State) (session n : ℕ) → (step s (steps.Begin session)).0 ≡ answers.Begun n → IsNext s n (step s (steps.Begin session)).1
unfolding step
begin-draws s session n e = by (txn_of s session) e
  where
    by : (o : Option (ℕ × Txn)) → (begin s session o).0 ≡ answers.Begun n → IsNext s n (begin s session o).1
    by (Some x) e = absurd (refused-begun (reasons.InTransaction x.0) n e)
    by None e = is-next s n (ap number_in e)

-- by the commit of a restore

abbrev tail : List Commit → List Commit
tail [] = []
tail (c ∷ cs) = cs

abbrev head-tx : List Commit → ℕ
head-tx [] = 0
head-tx (c ∷ cs) = c.tx

same-last : (cs : List Commit) (d e : Commit) → cs ++ d ∷ [] ≡ cs ++ e ∷ [] → d.tx ≡ e.tx
same-last [] d e is = ap head-tx is
same-last (c ∷ cs) d e is = same-last cs d e (ap tail is)

no-more : (cs : List Commit) (d : Commit) → cs ≡ cs ++ d ∷ [] → ⊥
no-more cs d is = longer (length cs) (ap (λ (xs : List Commit). length xs) is ∙ length_push cs d)
  where
    longer : (n : ℕ) → n ≡ n + 1 → ⊥
    longer n e = omega (arith, e)

module _ (s : State) (commit : Commit) where
  abbrev HasDrawn : State → Type 0
  HasDrawn later = later.commits ≡ s.commits ++ commit ∷ [] → IsNext s commit.tx later

  restore-draws : (t : Target) → HasDrawn (step s (steps.Restore t)).1
  unfolding step
  restore-draws t = at-restore HasDrawn s (λ added. absurd (no-more s.commits commit added)) t
      (λ later added. is-next s commit.tx (same-last s.commits (commit_to s.commits (number_of (drawing s)) (has_links (restore_moved s later)) later) commit added))

pub draws-next : (s : State) (x : Step) (n : ℕ) → Draws s x n → IsNext s n (step s x).1
draws-next s (steps.Begin session) n draws = begin-draws s session n draws
draws-next s (steps.Statement session stmt) n draws = absurd draws
draws-next s (steps.Prepare session) n draws = absurd draws
draws-next s (steps.Decide session) n draws = absurd draws
draws-next s (steps.Finish session) n draws = absurd draws
draws-next s (steps.Rollback session) n draws = absurd draws
draws-next s (steps.File cmd) n draws = absurd draws
draws-next s (steps.Archive l) n draws = absurd draws
draws-next s steps.Backup n draws = absurd draws
draws-next s (steps.Restore t) n draws = subst (λ (m : ℕ). IsNext s m (step s (steps.Restore t)).1) draws.2 (restore-draws s draws.0 t draws.1)
draws-next s (steps.Tick k) n draws = absurd draws
draws-next s steps.CrashManager n draws = absurd draws
draws-next s steps.CrashDatabase n draws = absurd draws
draws-next s steps.Resolve n draws = absurd draws

-- A RUN

turn-onward : (r : Run) → number_of r.state ≤ number_of (turn r).state
turn-onward r = subst (λ (s : State). number_of r.state ≤ number_of s) (sym (turn-state r)) (by (next_step r) (no-stop r))
  where
    by : (o : Option Step) → GoesOn o → number_of r.state ≤ number_of (state-by r.state o)
    by None goes = le-self (number_of r.state)
    by (Some x) goes = step-onward r.state x (λ (is : x ≡ steps.CrashDatabase). absurd (subst IsNoStop is goes))

turns-onward : (n : ℕ) (r : Run) → number_of r.state ≤ number_of (after n r).state
turns-onward zero r = le-self (number_of r.state)
turns-onward (suc n) r = through (number_of r.state) (number_of (turn r).state) (number_of (after n (turn r)).state) (turn-onward r) (turns-onward n (turn r))

pub along : (k n : ℕ) (r : Run) → k ≤ n → number_of (after k r).state ≤ number_of (after n r).state
along k n r le = subst (λ (q : Run). number_of (after k r).state ≤ number_of q.state) (after-after k (n - k) r ∙ ap (λ (j : ℕ). after j r) (rest k n le)) (turns-onward (n - k) (after k r))

pub following : (k n m p : ℕ) (x y : Step) (r : Run) → k < n → next_step (after k r) ≡ Some x → next_step (after n r) ≡ Some y → Draws (after k r).state x m → Draws (after n r).state y p → m < p
following k n m p x y r lt next later draws draws_later =
    between m (number_of (after (k + 1) r).state) (number_of (after n r).state) p
    (sym (ap (λ (s : State). number_of s) (step-behind k r x next)) ∙ (draws-next (after k r).state x m draws).0)
    (along (k + 1) n r (next-le k n lt))
    (draws-next (after n r).state y p draws_later).1
  where
    between : (a b c d : ℕ) → b ≡ a → b ≤ c → c < d → a < d
    between a b c d is le less = omega (arith, is, le, less)
