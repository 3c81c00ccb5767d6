-- The steps that a line takes, one after another, and its answer.
use Rattle.std.specs.Prelude.{ℕ, ◌-◌, Bool, true, false, if◌then◌else◌, List, [], ◌∷◌, length, Option, Some, None, slice_get, position}
use Rattle.dl_base.specs.Answers.{is_committed, is_refused}
use Rattle.dl_base.specs.declared.answer.Answer.{Answer}
use Rattle.dl_base.specs.declared.answer.Answer.TheVariants as answers
use Rattle.dl_base.specs.declared.answer.Refusal.{Refusal}
use Rattle.dl_base.specs.declared.answer.Refusal.TheVariants as refusals
use Rattle.dl_base.specs.declared.statement.Stmt.{Stmt}
use Rattle.dl_base.specs.declared.statement.Stmt.TheVariants as statements
use Rattle.dl_base.specs.declared.step.Phase.{Phase}
use Rattle.dl_base.specs.declared.step.Phase.TheVariants as phases
use Rattle.dl_base.specs.declared.step.Step.{Step}
use Rattle.dl_base.specs.declared.step.Step.TheVariants as steps
use Rattle.dl_base.specs.declared.value.LinkNo.{LinkNo}
use Rattle.fs_command.specs.Commands.{read_of_path}
use Rattle.fs_command.specs.declared.line.FileLine.{FileLine}
use Rattle.fs_command.specs.declared.line.FileLine.TheVariants as files
use Rattle.dl_token.specs.Tokens.{read_token}
use Rattle.meaning_script.specs.declared.next.ActorState.{ActorState}
use Rattle.meaning_script.specs.declared.next.Next.{Next}
use Rattle.meaning_script.specs.declared.next.Next.TheVariants as nexts
use Rattle.meaning_script.specs.declared.kind.Line.{Line}
use Rattle.meaning_script.specs.declared.kind.Line.TheVariants as lines
use Rattle.meaning_script.specs.declared.kind.Order.{Order}
use Rattle.meaning_script.specs.declared.kind.Order.TheVariants as orders
use Rattle.meaning_script.specs.declared.kind.Sentence.{Sentence}
use Rattle.meaning_script.specs.declared.kind.Sentence.TheVariants as sentences

-- What a line comes to, behind the answers of its steps so far: one more step, or its answer, which is that of a step by its
-- number from 0, or one that no step gave; or it is answered nothing.
pub data Then : Type 0 where
  does : Step → Then
  given : ℕ → Then
  answered : Answer → Then
  silent : Then

-- ---- answers

abbrev pub is_begun : Answer → Bool
is_begun (answers.Begun tx) = true
is_begun _ = false

abbrev pub is_archived : Answer → Bool
is_archived (answers.Archived n) = true
is_archived _ = false

-- ---- one step

abbrev pub one : Step → List Answer → Then
one step [] = does step
one step (a ∷ more) = given 0

-- ---- statements

unfoldable pub behind_statement : ℕ → Answer → Then
behind_statement s said = if is_refused said then does (steps.Rollback s) else does (steps.Prepare s)

unfoldable pub behind_prepare : ℕ → Answer → Answer → Then
behind_prepare s said prepared =
    if is_refused said then given 1 else (if is_refused prepared then does (steps.Rollback s) else does (steps.Decide s))

unfoldable pub behind_decide : ℕ → Answer → Answer → Then
behind_decide s prepared decided =
    if is_refused prepared then given 2 else (if is_refused decided then given 3 else (if is_committed decided then does (steps.Finish s) else given 1))

abbrev pub behind_finish : Answer → Then
behind_finish finished = if is_refused finished then given 4 else given 1

-- a statement outside a transaction: Begin, Statement, Prepare, Decide, Finish; Rollback where Statement or Prepare is refused,
-- and nothing behind a Decide that drops the transaction; the answer is the first refusal, or else the Statement's
unfoldable pub alone : ℕ → Stmt → List Answer → Then
alone s stmt [] = does (steps.Begin s)
alone s stmt (b ∷ []) = does (steps.Statement s stmt)
alone s stmt (b ∷ said ∷ []) = behind_statement s said
alone s stmt (b ∷ said ∷ prepared ∷ []) = behind_prepare s said prepared
alone s stmt (b ∷ said ∷ prepared ∷ decided ∷ []) = behind_decide s prepared decided
alone s stmt (b ∷ said ∷ prepared ∷ decided ∷ finished ∷ more) = behind_finish finished

abbrev pub has_none : Option Phase → Bool
has_none None = true
has_none (Some p) = false

-- the line began outside a transaction
abbrev pub is_alone : Option Phase → List Answer → Bool
is_alone phase [] = has_none phase
is_alone phase (a ∷ more) = is_begun a

unfoldable pub statement : ActorState → Stmt → List Answer → Then
statement actor stmt done =
    if is_alone actor.phase done then alone actor.session stmt done else one (steps.Statement actor.session stmt) done

-- ---- COMMIT

-- the step that a phase needs next, if it needs one
abbrev pub step_from : ℕ → Option Phase → Option Step
step_from s (Some phases.Active) = Some (steps.Prepare s)
step_from s (Some phases.Prepared) = Some (steps.Decide s)
step_from s (Some phases.Decided) = Some (steps.Finish s)
step_from s _ = None

-- as the first answer that tells a commit, or else done
abbrev pub told_commit : Option ℕ → Then
told_commit None = answered answers.Done
told_commit (Some k) = given k

unfoldable pub goes_on : Option Step → List Answer → Then
goes_on (Some step) done = does step
goes_on None done = told_commit (position is_committed done)

-- the answer of the last step so far
abbrev pub last_of : List Answer → Option Answer
last_of done = slice_get done (length done - 1)

abbrev pub first_step : ℕ → Option Step → Step
first_step s None = steps.Prepare s
first_step s (Some step) = step

unfoldable pub commit_behind : ℕ → Option Phase → List Answer → Answer → Then
commit_behind s phase done last = if is_refused last then given (length done - 1) else goes_on (step_from s phase) done

abbrev pub commit_by : ℕ → Option Phase → List Answer → Option Answer → Then
commit_by s phase done None = does (first_step s (step_from s phase))
commit_by s phase done (Some last) = commit_behind s phase done last

-- those of Prepare, Decide and Finish that the phase still needs, up to the first refusal or drop; without a transaction one Prepare
unfoldable pub commit : ActorState → List Answer → Then
commit actor done = commit_by actor.session actor.phase done (last_of done)

-- ---- sessions

unfoldable pub session : ActorState → Sentence → List Answer → Then
session actor (sentences.Sql statements.Begin) done = one (steps.Begin actor.session) done
session actor (sentences.Sql statements.Commit) done = commit actor done
session actor (sentences.Sql statements.Rollback) done = one (steps.Rollback actor.session) done
session actor (sentences.Sql stmt) done = statement actor stmt done
session actor sentences.Prepare done = one (steps.Prepare actor.session) done
session actor sentences.Decide done = one (steps.Decide actor.session) done
session actor sentences.Finish done = one (steps.Finish actor.session) done

-- ---- files

abbrev pub no_value : List ℕ → Then
no_value name = answered (answers.Refused (refusals.NoValue name))

abbrev pub asked : List ℕ → Option FileLine → Then
asked name (Some (files.Command cmd)) = does (steps.File cmd)
asked name _ = no_value name

-- `read $NAME`, by the text that `$NAME` stands for
unfoldable pub read_of : List ℕ → List ℕ → Option (List ℕ) → Then
read_of user name None = no_value name
read_of user name (Some text) = asked name (read_of_path user text (read_token text))

unfoldable pub file : Option (List ℕ) → FileLine → List Answer → Then
file last (files.Command cmd) done = one (steps.File cmd) done
file last (files.ReadOf user name) [] = read_of user name last
file last (files.ReadOf user name) (a ∷ more) = given 0

-- ---- the system

-- the first pending link is archived; where none is left, an end
abbrev pub archive_first : List LinkNo → Then → Then
archive_first [] end = end
archive_first (l ∷ ls) end = does (steps.Archive l)

-- `! archive`
unfoldable pub archive : ℕ → List LinkNo → Then
archive done pending = archive_first pending (answered (answers.Archived done))

-- `! backup`: each pending link, and then the tables
unfoldable pub backup_from : List LinkNo → Then
backup_from pending = archive_first pending (does steps.Backup)

unfoldable pub backup_behind : List Answer → List LinkNo → Answer → Then
backup_behind done pending last = if is_archived last then backup_from pending else given (length done - 1)

abbrev pub backup_by : List Answer → List LinkNo → Option Answer → Then
backup_by done pending None = backup_from pending
backup_by done pending (Some last) = backup_behind done pending last

unfoldable pub backup : List Answer → List LinkNo → Then
backup done pending = backup_by done pending (last_of done)

unfoldable pub crash_both : List Answer → Then
crash_both [] = does steps.CrashDatabase
crash_both (a ∷ []) = does steps.CrashManager
crash_both (a ∷ b ∷ []) = does steps.Resolve
crash_both (a ∷ b ∷ c ∷ more) = given 2

unfoldable pub system : Order → List Answer → List LinkNo → Then
system (orders.Tick seconds) done pending = one (steps.Tick seconds) done
system orders.Archive done pending = archive (length done) pending
system orders.Backup done pending = backup done pending
system (orders.Restore target) done pending = one (steps.Restore target) done
system orders.CrashManager done pending = one steps.CrashManager done
system orders.CrashDatabase done pending = one steps.CrashDatabase done
system orders.CrashBoth done pending = crash_both done
system orders.Resolve done pending = one steps.Resolve done

-- ---- lines

-- What a line comes to, its actor being so now, behind the answers of its steps so far; the links whose copies are pending now.
unfoldable pub expansion : Line → ActorState → List Answer → List LinkNo → Then
expansion lines.Nothing actor done pending = silent
expansion (lines.Session name s) actor done pending = session actor s done
expansion (lines.File l) actor done pending = file actor.last l done
expansion (lines.System o) actor done pending = system o done pending
expansion (lines.Bad why) actor done pending = answered (answers.Refused why)

-- what `expand` answers, as it is meant
abbrev pub meant : Next → Then
meant (nexts.Do step) = does step
meant (nexts.Statement s stmt) = does (steps.Statement s stmt.now)
meant (nexts.Given k) = given k
meant (nexts.Answered a) = answered a
meant nexts.Nothing = silent

-- a line as it is read: a bad one names a place
abbrev pub IsPlace : Refusal → Type 0
IsPlace (refusals.BadLine p) = Unit {0}
IsPlace (refusals.Syntax p) = Unit {0}
IsPlace _ = ⊥

abbrev pub IsRead : Line → Type 0
IsRead (lines.Bad why) = IsPlace why
IsRead _ = Unit {0}
