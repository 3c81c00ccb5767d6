-- No line of a script takes a step that stops the database.
use Rattle.std.proofs.Common.{◌≡◌, ℕ, Bool, true, false, cond, List, [], ◌∷◌, length, position, Option, Some, None, refl}
use Rattle.dl_base.specs.Answers.{is_committed, is_refused}
use Rattle.dl_base.specs.declared.answer.Answer.{Answer}
use Rattle.dl_base.specs.declared.answer.Answer.TheVariants as answers
use Rattle.dl_base.specs.declared.statement.Stmt.{Stmt}
use Rattle.dl_base.specs.declared.statement.Stmt.TheVariants as statements
use Rattle.dl_base.specs.declared.step.Phase.{Phase}
use Rattle.dl_base.specs.declared.step.Phase.TheVariants as phases
use Rattle.dl_base.specs.declared.step.Step.{Step}
use Rattle.dl_base.specs.declared.step.Step.TheVariants as steps
use Rattle.dl_base.specs.declared.value.LinkNo.{LinkNo}
use Rattle.fs_command.specs.declared.line.FileLine.{FileLine}
use Rattle.fs_command.specs.declared.line.FileLine.TheVariants as files
use Rattle.meaning_run.specs.Built.{is_built}
use Rattle.meaning_run.specs.Running.{Read, Run, actor_state, by_kind, by_right, comes_to, met, next_step, pending_links, step_in, step_on}
use Rattle.meaning_script.specs.Actors.{is_extra}
use Rattle.meaning_script.specs.Expansion.{Then, does, given, answered, silent, alone, archive, archive_first, asked, backup, backup_behind, backup_by, backup_from, behind_decide, behind_prepare, behind_statement, commit, commit_behind, commit_by, expansion, file, first_step, goes_on, is_alone, is_archived, last_of, one, read_of, session, statement, step_from, system, told_commit}
use Rattle.meaning_script.specs.declared.kind.Line.{Line}
use Rattle.meaning_script.specs.declared.kind.Line.TheVariants as lines
use Rattle.meaning_script.specs.declared.kind.Order.{Order}
use Rattle.meaning_script.specs.declared.kind.Order.TheVariants as orders
use Rattle.meaning_script.specs.declared.kind.Sentence.{Sentence}
use Rattle.meaning_script.specs.declared.kind.Sentence.TheVariants as sentences
use Rattle.meaning_script.specs.declared.next.ActorState.{ActorState}

abbrev pub IsNoStop : Step → Type 0
IsNoStop steps.CrashDatabase = ⊥
IsNoStop _ = Unit {0}

-- a step, where there is one
abbrev pub GoesOn : Option Step → Type 0
GoesOn None = Unit {0}
GoesOn (Some x) = IsNoStop x

abbrev Goes : Then → Type 0
Goes (does x) = IsNoStop x
Goes _ = Unit {0}

goes-cond : (b : Bool) (t u : Then) → Goes t → Goes u → Goes (cond b t u)
goes-cond true t u a b = a
goes-cond false t u a b = b

goes-one : (x : Step) (done : List Answer) → IsNoStop x → Goes (one x done)
goes-one x [] is = is
goes-one x (a ∷ more) is = tt

-- ---- sessions

module _ (n : ℕ) where
  goes-statement-behind : (said : Answer) → Goes (behind_statement n said)
  unfolding behind_statement
  goes-statement-behind said = goes-cond (is_refused said) _ _ tt tt

  goes-prepare-behind : (said prepared : Answer) → Goes (behind_prepare n said prepared)
  unfolding behind_prepare
  goes-prepare-behind said prepared = goes-cond (is_refused said) _ _ tt (goes-cond (is_refused prepared) _ _ tt tt)

  goes-decide-behind : (prepared decided : Answer) → Goes (behind_decide n prepared decided)
  unfolding behind_decide
  goes-decide-behind prepared decided = goes-cond (is_refused prepared) _ _ tt (goes-cond (is_refused decided) _ _ tt (goes-cond (is_committed decided) _ _ tt tt))

  goes-alone : (stmt : Stmt) (done : List Answer) → Goes (alone n stmt done)
  unfolding alone
  goes-alone stmt [] = tt
  goes-alone stmt (a ∷ []) = tt
  goes-alone stmt (a ∷ b ∷ []) = goes-statement-behind b
  goes-alone stmt (a ∷ b ∷ c ∷ []) = goes-prepare-behind b c
  goes-alone stmt (a ∷ b ∷ c ∷ d ∷ []) = goes-decide-behind c d
  goes-alone stmt (a ∷ b ∷ c ∷ d ∷ e ∷ more) = goes-cond (is_refused e) _ _ tt tt

  goes-first : (o : Option Phase) → IsNoStop (first_step n (step_from n o))
  goes-first None = tt
  goes-first (Some phases.Active) = tt
  goes-first (Some phases.Prepared) = tt
  goes-first (Some phases.Decided) = tt
  goes-first (Some phases.Finished) = tt
  goes-first (Some phases.Dropped) = tt

  goes-told : (o : Option ℕ) → Goes (told_commit o)
  goes-told None = tt
  goes-told (Some k) = tt

  goes-further : (o : Option Phase) (done : List Answer) → Goes (goes_on (step_from n o) done)
  unfolding goes_on
  goes-further None done = goes-told (position is_committed done)
  goes-further (Some phases.Active) done = tt
  goes-further (Some phases.Prepared) done = tt
  goes-further (Some phases.Decided) done = tt
  goes-further (Some phases.Finished) done = goes-told (position is_committed done)
  goes-further (Some phases.Dropped) done = goes-told (position is_committed done)

  goes-commit : (phase : Option Phase) (done : List Answer) (o : Option Answer) → Goes (commit_by n phase done o)
  unfolding commit_behind
  goes-commit phase done None = goes-first phase
  goes-commit phase done (Some a) = goes-cond (is_refused a) _ _ tt (goes-further phase done)

module _ (actor : ActorState) where
  goes-statement : (stmt : Stmt) (done : List Answer) → Goes (statement actor stmt done)
  unfolding statement
  goes-statement stmt done = goes-cond (is_alone actor.phase done) _ _ (goes-alone actor.session stmt done) (goes-one (steps.Statement actor.session stmt) done tt)

  goes-session : (s : Sentence) (done : List Answer) → Goes (session actor s done)
  unfolding session commit
  goes-session (sentences.Sql statements.Begin) done = goes-one (steps.Begin actor.session) done tt
  goes-session (sentences.Sql statements.Commit) done = goes-commit actor.session actor.phase done (last_of done)
  goes-session (sentences.Sql statements.Rollback) done = goes-one (steps.Rollback actor.session) done tt
  goes-session (sentences.Sql (statements.CreateTable t cs)) done = goes-statement (statements.CreateTable t cs) done
  goes-session (sentences.Sql (statements.DropTable t)) done = goes-statement (statements.DropTable t) done
  goes-session (sentences.Sql (statements.Insert t cs vs)) done = goes-statement (statements.Insert t cs vs) done
  goes-session (sentences.Sql (statements.Update t cs e)) done = goes-statement (statements.Update t cs e) done
  goes-session (sentences.Sql (statements.Delete t e)) done = goes-statement (statements.Delete t e) done
  goes-session (sentences.Sql (statements.Select q)) done = goes-statement (statements.Select q) done
  goes-session sentences.Prepare done = goes-one (steps.Prepare actor.session) done tt
  goes-session sentences.Decide done = goes-one (steps.Decide actor.session) done tt
  goes-session sentences.Finish done = goes-one (steps.Finish actor.session) done tt

-- ---- files

goes-asked : (name : List ℕ) (o : Option FileLine) → Goes (asked name o)
goes-asked name None = tt
goes-asked name (Some (files.Command cmd)) = tt
goes-asked name (Some (files.ReadOf user other)) = tt

goes-read : (user name : List ℕ) (last : Option (List ℕ)) → Goes (read_of user name last)
unfolding read_of
goes-read user name None = tt
goes-read user name (Some text) = goes-asked name _

goes-file : (last : Option (List ℕ)) (l : FileLine) (done : List Answer) → Goes (file last l done)
unfolding file
goes-file last (files.Command cmd) done = goes-one (steps.File cmd) done tt
goes-file last (files.ReadOf user name) [] = goes-read user name last
goes-file last (files.ReadOf user name) (a ∷ more) = tt

-- ---- the system

goes-archive : (pending : List LinkNo) (end : Then) → Goes end → Goes (archive_first pending end)
goes-archive [] end goes = goes
goes-archive (l ∷ ls) end goes = tt

goes-backup : (done : List Answer) (pending : List LinkNo) (o : Option Answer) → Goes (backup_by done pending o)
unfolding backup_from backup_behind
goes-backup done pending None = goes-archive pending (does steps.Backup) tt
goes-backup done pending (Some last) = goes-cond (is_archived last) _ _ (goes-archive pending (does steps.Backup) tt) tt

goes-system : (order : Order) (done : List Answer) (pending : List LinkNo) → is_built (lines.System order) ≡ true → Goes (system order done pending)
unfolding system archive backup
goes-system (orders.Tick seconds) done pending built = goes-one (steps.Tick seconds) done tt
goes-system orders.Archive done pending built = goes-archive pending (answered (answers.Archived (length done))) tt
goes-system orders.Backup done pending built = goes-backup done pending (last_of done)
goes-system (orders.Restore target) done pending built = goes-one (steps.Restore target) done tt
goes-system orders.CrashManager done pending built = absurd cc
goes-system orders.CrashDatabase done pending built = absurd cc
goes-system orders.CrashBoth done pending built = absurd cc
goes-system orders.Resolve done pending built = absurd cc

-- ---- lines

goes-line : (line : Line) (actor : ActorState) (done : List Answer) (pending : List LinkNo) → is_built line ≡ true → Goes (expansion line actor done pending)
unfolding expansion
goes-line lines.Nothing actor done pending built = tt
goes-line (lines.Bad why) actor done pending built = tt
goes-line (lines.System order) actor done pending built = goes-system order done pending built
goes-line (lines.File l) actor done pending built = goes-file actor.last l done
goes-line (lines.Session name s) actor done pending built = goes-session actor s done

goes-right : (r : Run) (line : Line) (extra : Bool) → Goes (by_right r line extra)
goes-right r line true = tt
goes-right r line false = by (is_built line) refl
  where
    by : (b : Bool) → is_built line ≡ b → Goes (by_kind r line b)
    by true is = goes-line line (actor_state r line) r.answers (pending_links r.state) is
    by false is = tt

goes-step : (t : Then) → Goes t → GoesOn (step_in t)
goes-step (does x) goes = goes
goes-step (given k) goes = tt
goes-step (answered a) goes = tt
goes-step silent goes = tt

goes-lines : (r : Run) (ls : List Read) → GoesOn (step_on r ls)
unfolding comes_to
goes-lines r [] = tt
goes-lines r (l ∷ more) = goes-step (by_right (met r l.actor) l.line (is_extra r.actors l.actor)) (goes-right (met r l.actor) l.line (is_extra r.actors l.actor))

-- THE NEXT STEP of a run
pub no-stop : (r : Run) → GoesOn (next_step r)
no-stop r = goes-lines r r.lines
