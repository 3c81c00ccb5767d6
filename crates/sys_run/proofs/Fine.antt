-- Which steps a line comes to.
use Rattle.std.proofs.Common.{◌≡◌, ℕ, Bool, true, false, cond, List, [], ◌∷◌, length, position, Option, Some, None, refl}
use Rattle.db_txn.specs.Transaction.{is_evaluated}
use Rattle.dl_base.specs.declared.answer.Answer.{Answer}
use Rattle.dl_base.specs.declared.answer.Answer.TheVariants as answers
use Rattle.dl_base.specs.declared.statement.Stmt.{Stmt}
use Rattle.dl_base.specs.declared.statement.Stmt.TheVariants as statements
use Rattle.dl_base.specs.declared.step.Phase.{Phase}
use Rattle.dl_base.specs.declared.step.Phase.TheVariants as phases
use Rattle.dl_base.specs.declared.step.Step.{Step}
use Rattle.dl_base.specs.declared.step.Step.TheVariants as steps
use Rattle.dl_base.specs.declared.value.LinkNo.{LinkNo}
use Rattle.fs_command.specs.declared.line.FileLine.{FileLine}
use Rattle.fs_command.specs.declared.line.FileLine.TheVariants as files
use Rattle.meaning_run.specs.Built.{is_built}
use Rattle.meaning_run.specs.Running.{Run, actor_state, stores_copies}
use Rattle.dl_base.specs.Answers.{is_committed, is_refused}
use Rattle.meaning_script.specs.Expansion.{Then, does, answered, alone, archive, archive_first, asked, backup, backup_behind, backup_by, backup_from, behind_decide, behind_prepare, behind_statement, commit, commit_behind, commit_by, expansion, file, first_step, goes_on, is_alone, is_archived, last_of, one, read_of, session, statement, step_from, system, told_commit}
use Rattle.meaning_script.specs.declared.kind.Line.{Line}
use Rattle.meaning_script.specs.declared.kind.Line.TheVariants as lines
use Rattle.meaning_script.specs.declared.kind.Order.{Order}
use Rattle.meaning_script.specs.declared.kind.Order.TheVariants as orders
use Rattle.meaning_script.specs.declared.kind.Sentence.{Sentence}
use Rattle.meaning_script.specs.declared.kind.Sentence.TheVariants as sentences
use Rattle.meaning_script.specs.declared.next.ActorState.{ActorState}
use Rattle.meaning_script.specs.Actors.{sessions}
use Rattle.sys_recovery.specs.Left.{IsAtomic}
use Rattle.sys_run.specs.Sessions.{IsSession, IsStepOf}
use Rattle.sys_run.specs.Turning.{IsNamed}

-- a step that is taken for a line, where there is one
abbrev pub Fine : ℕ → Then → Type 0
Fine count (does x) = IsStepOf count x
Fine count _ = Unit {0}

fine-cond : (count : ℕ) (b : Bool) (t u : Then) → Fine count t → Fine count u → Fine count (cond b t u)
fine-cond count true t u a b = a
fine-cond count false t u a b = b

fine-one : (count : ℕ) (x : Step) (done : List Answer) → IsStepOf count x → Fine count (one x done)
fine-one count x [] is = is
fine-one count x (a ∷ more) is = tt

module _ (count n : ℕ) (in_range : IsSession count n) where
  fine-statement-behind : (said : Answer) → Fine count (behind_statement n said)
  unfolding behind_statement
  fine-statement-behind said = fine-cond count (is_refused said) _ _ in_range in_range

  fine-prepare-behind : (said prepared : Answer) → Fine count (behind_prepare n said prepared)
  unfolding behind_prepare
  fine-prepare-behind said prepared = fine-cond count (is_refused said) _ _ tt (fine-cond count (is_refused prepared) _ _ in_range in_range)

  fine-decide-behind : (prepared decided : Answer) → Fine count (behind_decide n prepared decided)
  unfolding behind_decide
  fine-decide-behind prepared decided = fine-cond count (is_refused prepared) _ _ tt (fine-cond count (is_refused decided) _ _ tt (fine-cond count (is_committed decided) _ _ in_range tt))

  fine-alone : (stmt : Stmt) → is_evaluated stmt ≡ true → (done : List Answer) → Fine count (alone n stmt done)
  unfolding alone
  fine-alone stmt plain [] = in_range
  fine-alone stmt plain (a ∷ []) = (in_range, plain)
  fine-alone stmt plain (a ∷ b ∷ []) = fine-statement-behind b
  fine-alone stmt plain (a ∷ b ∷ c ∷ []) = fine-prepare-behind b c
  fine-alone stmt plain (a ∷ b ∷ c ∷ d ∷ []) = fine-decide-behind c d
  fine-alone stmt plain (a ∷ b ∷ c ∷ d ∷ e ∷ more) = fine-cond count (is_refused e) _ _ tt tt

  fine-first : (o : Option Phase) → IsStepOf count (first_step n (step_from n o))
  fine-first None = in_range
  fine-first (Some phases.Active) = in_range
  fine-first (Some phases.Prepared) = in_range
  fine-first (Some phases.Decided) = in_range
  fine-first (Some phases.Finished) = in_range
  fine-first (Some phases.Dropped) = in_range

  fine-told : (o : Option ℕ) → Fine count (told_commit o)
  fine-told None = tt
  fine-told (Some k) = tt

  fine-goes-on : (o : Option Phase) (done : List Answer) → Fine count (goes_on (step_from n o) done)
  unfolding goes_on
  fine-goes-on None done = fine-told (position is_committed done)
  fine-goes-on (Some phases.Active) done = in_range
  fine-goes-on (Some phases.Prepared) done = in_range
  fine-goes-on (Some phases.Decided) done = in_range
  fine-goes-on (Some phases.Finished) done = fine-told (position is_committed done)
  fine-goes-on (Some phases.Dropped) done = fine-told (position is_committed done)

  fine-commit : (phase : Option Phase) (done : List Answer) (o : Option Answer) → Fine count (commit_by n phase done o)
  unfolding commit_behind
  fine-commit phase done None = fine-first phase
  fine-commit phase done (Some a) = fine-cond count (is_refused a) _ _ tt (fine-goes-on phase done)

fine-statement : (count : ℕ) (actor : ActorState) → IsSession count actor.session → (stmt : Stmt) → is_evaluated stmt ≡ true → (done : List Answer) → Fine count (statement actor stmt done)
unfolding statement
fine-statement count actor in_range stmt plain done =
    fine-cond count (is_alone actor.phase done) _ _ (fine-alone count actor.session in_range stmt plain done) (fine-one count (steps.Statement actor.session stmt) done (in_range, plain))

fine-session : (count : ℕ) (actor : ActorState) → IsSession count actor.session → (s : Sentence) (done : List Answer) → Fine count (session actor s done)
unfolding session commit
fine-session count actor in_range (sentences.Sql statements.Begin) done = fine-one count (steps.Begin actor.session) done in_range
fine-session count actor in_range (sentences.Sql statements.Commit) done = fine-commit count actor.session in_range actor.phase done (last_of done)
fine-session count actor in_range (sentences.Sql statements.Rollback) done = fine-one count (steps.Rollback actor.session) done in_range
fine-session count actor in_range (sentences.Sql (statements.CreateTable t cs)) done = fine-statement count actor in_range (statements.CreateTable t cs) refl done
fine-session count actor in_range (sentences.Sql (statements.DropTable t)) done = fine-statement count actor in_range (statements.DropTable t) refl done
fine-session count actor in_range (sentences.Sql (statements.Insert t cs vs)) done = fine-statement count actor in_range (statements.Insert t cs vs) refl done
fine-session count actor in_range (sentences.Sql (statements.Update t cs e)) done = fine-statement count actor in_range (statements.Update t cs e) refl done
fine-session count actor in_range (sentences.Sql (statements.Delete t e)) done = fine-statement count actor in_range (statements.Delete t e) refl done
fine-session count actor in_range (sentences.Sql (statements.Select q)) done = fine-statement count actor in_range (statements.Select q) refl done
fine-session count actor in_range sentences.Prepare done = fine-one count (steps.Prepare actor.session) done in_range
fine-session count actor in_range sentences.Decide done = fine-one count (steps.Decide actor.session) done in_range
fine-session count actor in_range sentences.Finish done = fine-one count (steps.Finish actor.session) done in_range

fine-asked : (count : ℕ) (name : List ℕ) (o : Option FileLine) → Fine count (asked name o)
fine-asked count name None = tt
fine-asked count name (Some (files.Command cmd)) = tt
fine-asked count name (Some (files.ReadOf user other)) = tt

fine-read : (count : ℕ) (user name : List ℕ) (last : Option (List ℕ)) → Fine count (read_of user name last)
unfolding read_of
fine-read count user name None = tt
fine-read count user name (Some text) = fine-asked count name _

fine-file : (count : ℕ) (last : Option (List ℕ)) (l : FileLine) (done : List Answer) → Fine count (file last l done)
unfolding file
fine-file count last (files.Command cmd) done = fine-one count (steps.File cmd) done tt
fine-file count last (files.ReadOf user name) [] = fine-read count user name last
fine-file count last (files.ReadOf user name) (a ∷ more) = tt

-- a copy more, or the end
fine-archive-first : (count : ℕ) (pending : List LinkNo) (end : Then) → Fine count end → Fine count (archive_first pending end)
fine-archive-first count [] end fine = fine
fine-archive-first count (l ∷ ls) end fine = tt

fine-backup : (count : ℕ) (done : List Answer) (pending : List LinkNo) (o : Option Answer) → Fine count (backup_by done pending o)
unfolding backup_from backup_behind
fine-backup count done pending None = fine-archive-first count pending (does steps.Backup) tt
fine-backup count done pending (Some last) = fine-cond count (is_archived last) _ _ (fine-archive-first count pending (does steps.Backup) tt) tt

fine-system : (count : ℕ) (order : Order) (done : List Answer) (pending : List LinkNo) → is_built (lines.System order) ≡ true → Fine count (system order done pending)
unfolding system archive backup
fine-system count (orders.Tick seconds) done pending built = fine-one count (steps.Tick seconds) done tt
fine-system count orders.Archive done pending built = fine-archive-first count pending (answered (answers.Archived (length done))) tt
fine-system count orders.Backup done pending built = fine-backup count done pending (last_of done)
fine-system count (orders.Restore target) done pending built = fine-one count (steps.Restore target) done tt
fine-system count orders.CrashManager done pending built = absurd cc
fine-system count orders.CrashDatabase done pending built = absurd cc
fine-system count orders.CrashBoth done pending built = absurd cc
fine-system count orders.Resolve done pending built = absurd cc

-- a line that is built takes steps of its own session, a command, those that store copies and tables, or one of the clock
pub fine-line : (r : Run) (line : Line) (done : List Answer) (pending : List LinkNo) → is_built line ≡ true → IsNamed r line → Fine (length (sessions r.actors)) (expansion line (actor_state r line) done pending)
unfolding expansion
fine-line r lines.Nothing done pending built named = tt
fine-line r (lines.Bad why) done pending built named = tt
fine-line r (lines.System order) done pending built named = fine-system (length (sessions r.actors)) order done pending built
fine-line r (lines.File l) done pending built named = fine-file (length (sessions r.actors)) (actor_state r (lines.File l)).last l done
fine-line r (lines.Session name s) done pending built named = fine-session (length (sessions r.actors)) (actor_state r (lines.Session name s)) named s done

-- a line that stores no copies does not look at what is pending

no-pending-system : (order : Order) (done : List Answer) (p q : List LinkNo) → stores_copies (lines.System order) ≡ false → system order done p ≡ system order done q
unfolding system
no-pending-system (orders.Tick seconds) done p q none = refl
no-pending-system orders.Archive done p q none = absurd cc
no-pending-system orders.Backup done p q none = absurd cc
no-pending-system (orders.Restore target) done p q none = refl
no-pending-system orders.CrashManager done p q none = refl
no-pending-system orders.CrashDatabase done p q none = refl
no-pending-system orders.CrashBoth done p q none = refl
no-pending-system orders.Resolve done p q none = refl

pub no-pending : (line : Line) (actor : ActorState) (done : List Answer) (p q : List LinkNo) → stores_copies line ≡ false → expansion line actor done p ≡ expansion line actor done q
unfolding expansion
no-pending lines.Nothing actor done p q none = refl
no-pending (lines.Bad why) actor done p q none = refl
no-pending (lines.System order) actor done p q none = no-pending-system order done p q none
no-pending (lines.File l) actor done p q none = refl
no-pending (lines.Session name s) actor done p q none = refl

-- the steps of a line that is built are done with their commit, or with their last record
pub step-atomic : (count : ℕ) (x : Step) → IsStepOf count x → IsAtomic x
step-atomic count (steps.Begin n) is = tt
step-atomic count (steps.Statement n stmt) is = tt
step-atomic count (steps.Prepare n) is = tt
step-atomic count (steps.Decide n) is = tt
step-atomic count (steps.Finish n) is = tt
step-atomic count (steps.Rollback n) is = tt
step-atomic count (steps.File cmd) is = tt
step-atomic count (steps.Archive n) is = tt
step-atomic count steps.Backup is = tt
step-atomic count (steps.Restore t) is = tt
step-atomic count (steps.Tick n) is = tt
step-atomic count steps.CrashManager is = absurd is
step-atomic count steps.CrashDatabase is = absurd is
step-atomic count steps.Resolve is = absurd is
