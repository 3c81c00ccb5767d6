-- A line takes few steps.
use Rattle.std.proofs.Common.{◌≡◌, ◌⊎◌, inl, inr, ⊎_elim, ℕ, zero, suc, ◌+◌, ◌-◌, ◌<◌, ◌≤◌, Bool, true, false, cond, List, [], ◌∷◌, ◌++◌, length, slice_get, position, Option, Some, None, refl, sym, ap, ◌∙◌, subst, arith, length-append}
use Rattle.dl_base.specs.declared.answer.Answer.{Answer}
use Rattle.dl_base.specs.declared.statement.Stmt.{Stmt}
use Rattle.dl_base.specs.declared.statement.Stmt.TheVariants as statements
use Rattle.dl_base.specs.declared.step.Phase.{Phase}
use Rattle.dl_base.specs.declared.step.Phase.TheVariants as phases
use Rattle.dl_base.specs.declared.step.Step.{Step}
use Rattle.dl_base.specs.declared.step.Step.TheVariants as steps
use Rattle.fs_command.specs.declared.line.FileLine.{FileLine}
use Rattle.fs_command.specs.declared.line.FileLine.TheVariants as files
use Rattle.meaning_areas.proofs.Tables.{some_same}
use Rattle.meaning_run.proofs.Acting.{acted}
use Rattle.meaning_run.proofs.Lowering.{Lowers, commit-lowers, prepare-refused, weight, weight_in}
use Rattle.meaning_run.specs.Built.{is_built}
use Rattle.meaning_run.specs.Running.{Read, Run, actor_state, after, by_kind, by_right, comes_to, met, next_step, number_of, pending_links, phase_in, step_in, step_on, stepped, stores_copies, turn, turn_on, turned, StoresNone}
use Rattle.meaning_script.specs.Actors.{is_extra}
use Rattle.dl_base.specs.Answers.{is_committed, is_refused}
use Rattle.meaning_script.specs.Expansion.{Then, does, given, answered, silent, alone, commit, commit_behind, commit_by, expansion, file, first_step, goes_on, is_begun, last_of, one, session, statement, step_from, system, told_commit}
use Rattle.meaning_script.specs.declared.kind.Line.{Line}
use Rattle.meaning_script.specs.declared.kind.Line.TheVariants as lines
use Rattle.meaning_script.specs.declared.kind.Order.TheVariants as orders
use Rattle.meaning_script.specs.declared.kind.Sentence.TheVariants as sentences
use Rattle.meaning_script.specs.declared.next.ActorState.{ActorState}
use Rattle.meaning_system.specs.Machine.{step}
use Rattle.meaning_system.specs.State.{State, txn_of}

none_some : {A : Type 0} {X : Type 0} (x : A) → None ≡ Some x → X
none_some x e = absurd cc

lt-itself : (m n : ℕ) → m < n → m ≡ n → ⊥
lt-itself m n less same = omega (arith, less, same)

-- ---- lines that are no COMMIT

one-few : (y x : Step) (done : List Answer) → step_in (one y done) ≡ Some x → length done < 5
one-few y x [] next = omega arith
one-few y x (a ∷ more) next = none_some x next

finish-none : (b : Bool) → step_in (cond b (given 4) (given 1)) ≡ None
finish-none true = refl
finish-none false = refl

alone-few : (n : ℕ) (stmt : Stmt) (x : Step) (done : List Answer) → step_in (alone n stmt done) ≡ Some x → length done < 5
unfolding alone
alone-few n stmt x [] next = omega arith
alone-few n stmt x (a ∷ []) next = omega arith
alone-few n stmt x (a ∷ b ∷ []) next = omega arith
alone-few n stmt x (a ∷ b ∷ c ∷ []) next = omega arith
alone-few n stmt x (a ∷ b ∷ c ∷ d ∷ []) next = omega arith
alone-few n stmt x (a ∷ b ∷ c ∷ d ∷ e ∷ more) next = none_some x (sym (finish-none (is_refused e)) ∙ next)

statement-few : (actor : ActorState) (stmt : Stmt) (x : Step) (done : List Answer) → step_in (statement actor stmt done) ≡ Some x → length done < 5
unfolding statement
statement-few actor stmt x [] next = omega arith
statement-few actor stmt x (a ∷ more) next = by (is_begun a) next
  where
    by : (b : Bool) → step_in (cond b (alone actor.session stmt (a ∷ more)) (given 0)) ≡ Some x → length (a ∷ more) < 5
    by true next = alone-few actor.session stmt x (a ∷ more) next
    by false next = none_some x next

file-few : (last : Option (List ℕ)) (l : FileLine) (x : Step) (done : List Answer) → step_in (file last l done) ≡ Some x → length done < 5
unfolding file
file-few last (files.Command cmd) x done next = one-few (steps.File cmd) x done next
file-few last (files.ReadOf user name) x [] next = omega arith
file-few last (files.ReadOf user name) x (a ∷ more) next = none_some x next

-- ---- COMMIT

-- the last answer is a refusal
abbrev pub IsRefused : Option Answer → Type 0
IsRefused None = ⊥
IsRefused (Some a) = is_refused a ≡ true

-- the steps of a COMMIT so far, and those that are left, are three at most
abbrev pub IsCommitting : State → ℕ → List Answer → Type 0
IsCommitting s n done = IsRefused (last_of done) ⊎ (length done + weight_in s n ≤ 3)

last-push : (done : List Answer) (a : Answer) → last_of (done ++ a ∷ []) ≡ Some a
last-push done a = ap (λ k. slice_get (done ++ a ∷ []) k) (by (length done) (length (done ++ a ∷ [])) (length-append done (a ∷ []))) ∙ get-end done a
  where
    by : (n m : ℕ) → m ≡ n + 1 → m - 1 ≡ n
    by n m is = omega arith

    get-end : (xs : List Answer) (x : Answer) → slice_get (xs ++ x ∷ []) (length xs) ≡ Some x
    get-end [] x = refl
    get-end (y ∷ ys) x = get-end ys x

commit-refused : (n : ℕ) (phase : Option Phase) (done : List Answer) (o : Option Answer) → IsRefused o → step_in (commit_by n phase done o) ≡ None
unfolding commit_behind
commit-refused n phase done None is = absurd is
commit-refused n phase done (Some a) is = ap (λ b. step_in (cond b (given (length done - 1)) (goes_on (step_from n phase) done))) is

weight-low : (o : Option Phase) → weight o ≤ 3
weight-low None = omega arith
weight-low (Some phases.Active) = omega arith
weight-low (Some phases.Prepared) = omega arith
weight-low (Some phases.Decided) = omega arith
weight-low (Some phases.Finished) = omega arith
weight-low (Some phases.Dropped) = omega arith

-- the step that a COMMIT takes is that of its phase, or it is refused
commit-step : (s : State) (n : ℕ) (x : Step) (o : Option Step) → step_from n (phase_in (txn_of s n)) ≡ o → first_step n o ≡ x → Lowers (weight_in s n) n (step s x)
commit-step s n x None from is = inl (subst (λ (y : Step). is_refused (step s y).0 ≡ true) is (prepare-refused s n from))
commit-step s n x (Some y) from is = commit-lowers s n x (from ∙ ap (λ (z : Step). Some z) is)

told-none : (o : Option ℕ) → step_in (told_commit o) ≡ None
told-none None = refl
told-none (Some k) = refl

goes-none : (done : List Answer) → step_in (goes_on None done) ≡ None
unfolding goes_on
goes-none done = told-none (position is_committed done)

goes-some : (y : Step) (done : List Answer) → step_in (goes_on (Some y) done) ≡ Some y
unfolding goes_on
goes-some y done = refl

step-of-commit : (s : State) (n : ℕ) (x : Step) (done : List Answer) (o : Option Answer) → step_in (commit_by n (phase_in (txn_of s n)) done o) ≡ Some x → Lowers (weight_in s n) n (step s x)
unfolding commit_behind
step-of-commit s n x done None next = commit-step s n x (step_from n (phase_in (txn_of s n))) refl (some_same (first_step n (step_from n (phase_in (txn_of s n)))) x next)
step-of-commit s n x done (Some a) next = by (is_refused a) (step_from n (phase_in (txn_of s n))) refl next
  where
    by : (b : Bool) (o : Option Step) → step_from n (phase_in (txn_of s n)) ≡ o → step_in (cond b (given (length done - 1)) (goes_on o done)) ≡ Some x → Lowers (weight_in s n) n (step s x)
    by true o from next = none_some x next
    by false None from next = none_some x (sym (goes-none done) ∙ next)
    by false (Some y) from next = commit-lowers s n x (from ∙ sym (goes-some y done) ∙ next)

-- before its first step, and behind some
abbrev pub IsInCommit : State → ℕ → List Answer → Type 0
IsInCommit s n [] = Unit {0}
IsInCommit s n (a ∷ more) = IsCommitting s n (a ∷ more)

-- one step more
commit-more : (s : State) (n : ℕ) (phase : Option Phase) (x : Step) (done : List Answer) → IsInCommit s n done → step_in (commit_by n (phase_in (txn_of s n)) done (last_of done)) ≡ Some x
    → IsCommitting (step s x).1 n (done ++ (step s x).0 ∷ [])
commit-more s n phase x done now next = ⊎_elim
    (λ (refused : is_refused (step s x).0 ≡ true). inl (subst IsRefused (sym (last-push done (step s x).0)) refused))
    (λ (less : weight_in (step s x).1 n < weight_in s n). inr (by done now next less))
    (step-of-commit s n x done (last_of done) next)
  where
    by : (done : List Answer) → IsInCommit s n done → step_in (commit_by n (phase_in (txn_of s n)) done (last_of done)) ≡ Some x → weight_in (step s x).1 n < weight_in s n
        → length (done ++ (step s x).0 ∷ []) + weight_in (step s x).1 n ≤ 3
    by [] now next less = let low = weight-low (phase_in (txn_of s n)) in omega (arith, less, low)
    by (a ∷ more) now next less = ⊎_elim
        (λ (refused : IsRefused (last_of (a ∷ more))). none_some x (sym (commit-refused n (phase_in (txn_of s n)) (a ∷ more) (last_of (a ∷ more)) refused) ∙ next))
        (λ (few : length (a ∷ more) + weight_in s n ≤ 3). let len = length-append (a ∷ more) ((step s x).0 ∷ []) in omega (arith, less, few, len))
        now

commit-few : (s : State) (n : ℕ) (x : Step) (done : List Answer) → IsInCommit s n done → step_in (commit_by n (phase_in (txn_of s n)) done (last_of done)) ≡ Some x → length done < 5
commit-few s n x [] now next = omega arith
commit-few s n x (a ∷ more) now next = ⊎_elim
    (λ (refused : IsRefused (last_of (a ∷ more))). none_some x (sym (commit-refused n (phase_in (txn_of s n)) (a ∷ more) (last_of (a ∷ more)) refused) ∙ next))
    (λ (few : length (a ∷ more) + weight_in s n ≤ 3). omega (arith, few))
    now

-- ---- lines

-- what holds of a line between its steps
abbrev pub committing : Line → Option (List ℕ)
committing (lines.Session name (sentences.Sql statements.Commit)) = Some name
committing _ = None

abbrev pub IsCommitLine : Run → Option (List ℕ) → Type 0
IsCommitLine r None = Unit {0}
IsCommitLine r (Some name) = IsInCommit r.state (number_of r name) r.answers

abbrev pub IsInLine : Run → Line → Type 0
IsInLine r l = IsCommitLine r (committing l)

kind-few : (r : Run) (l : Line) (x : Step) → IsInLine r l → is_built l ≡ true → stores_copies l ≡ false → step_in (expansion l (actor_state r l) r.answers (pending_links r.state)) ≡ Some x → length r.answers < 5
unfolding expansion session system commit
kind-few r lines.Nothing x now built short next = none_some x next
kind-few r (lines.Bad why) x now built short next = none_some x next
kind-few r (lines.System (orders.Tick seconds)) x now built short next = one-few (steps.Tick seconds) x r.answers next
kind-few r (lines.System orders.Archive) x now built short next = absurd cc
kind-few r (lines.System orders.Backup) x now built short next = absurd cc
kind-few r (lines.System (orders.Restore target)) x now built short next = one-few (steps.Restore target) x r.answers next
kind-few r (lines.System orders.CrashManager) x now built short next = absurd cc
kind-few r (lines.System orders.CrashDatabase) x now built short next = absurd cc
kind-few r (lines.System orders.CrashBoth) x now built short next = absurd cc
kind-few r (lines.System orders.Resolve) x now built short next = absurd cc
kind-few r (lines.File l) x now built short next = file-few (actor_state r (lines.File l)).last l x r.answers next
kind-few r (lines.Session name (sentences.Sql statements.Begin)) x now built short next = one-few (steps.Begin (number_of r name)) x r.answers next
kind-few r (lines.Session name (sentences.Sql statements.Commit)) x now built short next = commit-few r.state (number_of r name) x r.answers now next
kind-few r (lines.Session name (sentences.Sql statements.Rollback)) x now built short next = one-few (steps.Rollback (number_of r name)) x r.answers next
kind-few r (lines.Session name (sentences.Sql (statements.CreateTable t cs))) x now built short next = statement-few (actor_state r (lines.Session name (sentences.Sql (statements.CreateTable t cs)))) (statements.CreateTable t cs) x r.answers next
kind-few r (lines.Session name (sentences.Sql (statements.DropTable t))) x now built short next = statement-few (actor_state r (lines.Session name (sentences.Sql (statements.DropTable t)))) (statements.DropTable t) x r.answers next
kind-few r (lines.Session name (sentences.Sql (statements.Insert t cs vs))) x now built short next = statement-few (actor_state r (lines.Session name (sentences.Sql (statements.Insert t cs vs)))) (statements.Insert t cs vs) x r.answers next
kind-few r (lines.Session name (sentences.Sql (statements.Update t cs e))) x now built short next = statement-few (actor_state r (lines.Session name (sentences.Sql (statements.Update t cs e)))) (statements.Update t cs e) x r.answers next
kind-few r (lines.Session name (sentences.Sql (statements.Delete t e))) x now built short next = statement-few (actor_state r (lines.Session name (sentences.Sql (statements.Delete t e)))) (statements.Delete t e) x r.answers next
kind-few r (lines.Session name (sentences.Sql (statements.Select q))) x now built short next = statement-few (actor_state r (lines.Session name (sentences.Sql (statements.Select q)))) (statements.Select q) x r.answers next
kind-few r (lines.Session name sentences.Prepare) x now built short next = one-few (steps.Prepare (number_of r name)) x r.answers next
kind-few r (lines.Session name sentences.Decide) x now built short next = one-few (steps.Decide (number_of r name)) x r.answers next
kind-few r (lines.Session name sentences.Finish) x now built short next = one-few (steps.Finish (number_of r name)) x r.answers next

kind-more : (r : Run) (l : Line) (x : Step) → IsInLine r l → step_in (expansion l (actor_state r l) r.answers (pending_links r.state)) ≡ Some x → IsInLine (stepped r x) l
unfolding expansion session commit
kind-more r lines.Nothing x now next = tt
kind-more r (lines.Bad why) x now next = tt
kind-more r (lines.System order) x now next = tt
kind-more r (lines.File l) x now next = tt
kind-more r (lines.Session name (sentences.Sql statements.Begin)) x now next = tt
kind-more r (lines.Session name (sentences.Sql statements.Commit)) x now next =
    in-commit (step r.state x).1 (number_of r name) (r.answers ++ (step r.state x).0 ∷ []) (commit-more r.state (number_of r name) None x r.answers now next)
  where
    in-commit : (s : State) (n : ℕ) (done : List Answer) → IsCommitting s n done → IsInCommit s n done
    in-commit s n [] is = tt
    in-commit s n (a ∷ more) is = is
kind-more r (lines.Session name (sentences.Sql statements.Rollback)) x now next = tt
kind-more r (lines.Session name (sentences.Sql (statements.CreateTable t cs))) x now next = tt
kind-more r (lines.Session name (sentences.Sql (statements.DropTable t))) x now next = tt
kind-more r (lines.Session name (sentences.Sql (statements.Insert t cs vs))) x now next = tt
kind-more r (lines.Session name (sentences.Sql (statements.Update t cs e))) x now next = tt
kind-more r (lines.Session name (sentences.Sql (statements.Delete t e))) x now next = tt
kind-more r (lines.Session name (sentences.Sql (statements.Select q))) x now next = tt
kind-more r (lines.Session name sentences.Prepare) x now next = tt
kind-more r (lines.Session name sentences.Decide) x now next = tt
kind-more r (lines.Session name sentences.Finish) x now next = tt

-- a step that a line comes to is one of its kind
its-kind : (r : Run) (l : Line) (extra : Bool) (x : Step) → step_in (by_right r l extra) ≡ Some x → (is_built l ≡ true) × (step_in (expansion l (actor_state r l) r.answers (pending_links r.state)) ≡ Some x)
its-kind r l true x next = none_some x next
its-kind r l false x next = by (is_built l) refl next
  where
    by : (b : Bool) → is_built l ≡ b → step_in (by_kind r l b) ≡ Some x → (is_built l ≡ true) × (step_in (expansion l (actor_state r l) r.answers (pending_links r.state)) ≡ Some x)
    by true is next = (is, next)
    by false is next = none_some x next

-- ---- turns

-- the first line of a run, once its actor has acted
abbrev pub HoldsOn : Run → List Read → Type 0
HoldsOn r [] = Unit {0}
HoldsOn r (l ∷ more) = IsInLine (met r l.actor) l.line

-- behind some turns a line is told, or holds
abbrev pub Holds : List Read → Run → Type 0
Holds ls r = (length r.lines < length ls) ⊎ ((r.lines ≡ ls) × HoldsOn r r.lines)

module _ (ls : List Read) (r : Run) (l : Read) (more : List Read) (is : r.lines ≡ l ∷ more) where
  not-longer : Holds ls r → length (l ∷ more) ≤ length ls
  not-longer (inl less) = let len : length r.lines ≡ length (l ∷ more) = ap length is in omega (arith, less, len)
  not-longer (inr (same, on)) = let len : length ls ≡ length (l ∷ more) = ap length (sym same ∙ is) in omega (arith, len)

  shorter : length (l ∷ more) ≤ length ls → length more < length ls
  shorter le = omega (arith, le)

  again : (x : Step) → IsInLine (stepped (met r l.actor) x) l.line → HoldsOn (stepped (met r l.actor) x) r.lines
  again x now =
      subst (HoldsOn (stepped (met r l.actor) x)) (sym is)
      (subst (λ (q : Run). IsInLine q l.line) (sym (ap (λ (actors : List (List ℕ)). record (stepped (met r l.actor) x) { actors = actors }) (acted r.actors l.actor))) now)

  turned-holds : Holds ls r → (t : Then) → comes_to r l ≡ t → Holds ls (turned (met r l.actor) l more t)
  unfolding comes_to
  turned-holds (inl less) (does x) of = inl less
  turned-holds (inr (same, on)) (does x) of =
      inr (same, again x (kind-more (met r l.actor) l.line x (subst (HoldsOn r) is on) (its-kind (met r l.actor) l.line (is_extra r.actors l.actor) x (ap step_in of)).1))
  turned-holds h (given k) of = inl (shorter (not-longer h))
  turned-holds h (answered a) of = inl (shorter (not-longer h))
  turned-holds h silent of = inl (shorter (not-longer h))

turn-holds : (ls : List Read) (r : Run) → Holds ls r → Holds ls (turn r)
unfolding turn
turn-holds ls r h = by r.lines refl
  where
    by : (now : List Read) → r.lines ≡ now → Holds ls (turn_on r now)
    by [] is = h
    by (l ∷ more) is = turned-holds ls r l more is h (comes_to r l) refl

after-holds : (n : ℕ) (ls : List Read) (r : Run) → Holds ls r → Holds ls (after n r)
after-holds zero ls r h = h
after-holds (suc n) ls r h = after-holds n ls (turn r) (turn-holds ls r h)

first-line : (r : Run) (o : Option (List ℕ)) → r.answers ≡ [] → IsCommitLine r o
first-line r None none = tt
first-line r (Some name) none = subst (IsInCommit r.state (number_of r name)) (sym none) tt

first-holds : (r : Run) → r.answers ≡ [] → Holds r.lines r
first-holds r none = inr (refl, by r.lines)
  where
    by : (now : List Read) → HoldsOn r now
    by [] = tt
    by (l ∷ more) = first-line (met r l.actor) (committing l.line) none

few-now : (r : Run) (x : Step) → (now : List Read) → StoresNone now → HoldsOn r now → step_on r now ≡ Some x → length r.answers < 5
unfolding comes_to
few-now r x [] short on next = none_some x next
few-now r x (l ∷ more) short on next =
    let kind = its-kind (met r l.actor) l.line (is_extra r.actors l.actor) x next in
    kind-few (met r l.actor) l.line x on kind.0 short kind.1

pub few-steps : (n : ℕ) (r : Run) (x : Step) → r.answers ≡ [] → StoresNone r.lines → (after n r).lines ≡ r.lines → next_step (after n r) ≡ Some x → length (after n r).answers < 5
few-steps n r x none short same next = by (after-holds n r.lines r (first-holds r none))
  where
    by : Holds r.lines (after n r) → length (after n r).answers < 5
    by (inl less) = let len : length (after n r).lines ≡ length r.lines = ap length same in absurd (lt-itself (length (after n r).lines) (length r.lines) less len)
    by (inr (is, on)) = few-now (after n r) x (after n r).lines (subst StoresNone (sym same) short) on next
