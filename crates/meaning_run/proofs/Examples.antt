-- Worked rows: runs of scripts of one line or two.
use Rattle.std.proofs.Common.{◌≡◌, ◌+◌, ◌-◌, ◌^◌, min, List, [], ◌∷◌, ◌++◌, codes, map, Some, None, refl, ap}
use Rattle.dl_base.specs.declared.answer.Answer.TheVariants as answers
use Rattle.dl_base.specs.declared.answer.Refusal.TheVariants as refusals
use Rattle.dl_base.specs.declared.file.FileCmd.{FileCmd}
use Rattle.dl_base.specs.declared.step.Step.TheVariants as steps
use Rattle.dl_base.specs.declared.step.Target.{Target}
use Rattle.dl_base.specs.declared.value.LinkRow.{LinkRow}
use Rattle.fs_command.specs.declared.line.FileLine.TheVariants as files
use Rattle.meaning_run.specs.Running.{IsAtEnd, Read, after, comes_to, first_run, next_step, step_in, turn, turned, written}
use Rattle.meaning_script.specs.Expansion.{answered, archive, archive_first, backup, backup_from, does, expansion, file, system}
use Rattle.meaning_script.specs.Printed.{line_text}
use Rattle.meaning_script.specs.declared.kind.Line.TheVariants as lines
use Rattle.meaning_script.specs.declared.kind.Order.TheVariants as orders
use Rattle.meaning_system.specs.Machine.{pending, step}
use Rattle.meaning_system.specs.State.{State}
use Rattle.meaning_system.specs.Writes.{writes}

abbrev pub bad : Read
bad = record { actor = None; line = lines.Bad (refusals.BadLine 3) }

abbrev pub blank : Read
blank = record { actor = None; line = lines.Nothing }

abbrev pub resolve : Read
resolve = record { actor = None; line = lines.System orders.Resolve }

abbrev pub archive_all : Read
archive_all = record { actor = None; line = lines.System orders.Archive }

abbrev pub backup_all : Read
backup_all = record { actor = None; line = lines.System orders.Backup }

abbrev pub restore_to : Target → Read
restore_to target = record { actor = None; line = lines.System (orders.Restore target) }

abbrev pub tick : Read
tick = record { actor = None; line = lines.System (orders.Tick 60) }

abbrev pub command : FileCmd → Read
command cmd = record { actor = Some (codes "@ann"); line = lines.File (files.Command cmd) }

-- a blank line is counted and not told, and a bad one is
pub row-bad : (s : State) → (after 2 (first_run (blank ∷ bad ∷ []) s)).told ≡ line_text [] 2 (answers.Refused (refusals.BadLine 3))
unfolding turn comes_to expansion
row-bad s = refl

-- what is not built takes no step
pub row-resolve : (s : State) → next_step (first_run (resolve ∷ []) s) ≡ None
unfolding comes_to
row-resolve s = refl

pub row-not-built : (s : State) → (after 1 (first_run (resolve ∷ []) s)).told ≡ line_text [] 1 (answers.Refused refusals.NotBuilt)
unfolding turn comes_to
row-not-built s = refl

-- the first link whose copy is pending is archived
pub row-archive : (s : State) (l : LinkRow) (ls : List LinkRow) → pending s ≡ l ∷ ls → next_step (first_run (archive_all ∷ []) s) ≡ Some (steps.Archive l.link)
unfolding comes_to expansion system archive
row-archive s l ls is = ap (λ (waiting : List LinkRow). step_in (archive_first (map (λ (w : LinkRow). w.link) waiting) (answered (answers.Archived 0)))) is

pub row-backup : (s : State) (l : LinkRow) (ls : List LinkRow) → pending s ≡ l ∷ ls → next_step (first_run (backup_all ∷ []) s) ≡ Some (steps.Archive l.link)
unfolding comes_to expansion system backup backup_from
row-backup s l ls is = ap (λ (waiting : List LinkRow). step_in (archive_first (map (λ (w : LinkRow). w.link) waiting) (does steps.Backup))) is

-- where none is, the number of those that were is told, and the tables are backed up
pub row-archived : (s : State) → pending s ≡ [] → (after 1 (first_run (archive_all ∷ []) s)).told ≡ line_text [] 1 (answers.Archived 0)
unfolding turn comes_to expansion system archive
row-archived s none = ap (λ (waiting : List LinkRow). (turned (first_run (archive_all ∷ []) s) archive_all [] (archive_first (map (λ (w : LinkRow). w.link) waiting) (answered (answers.Archived 0)))).told) none

pub row-backed-up : (s : State) → pending s ≡ [] → next_step (first_run (backup_all ∷ []) s) ≡ Some steps.Backup
unfolding comes_to expansion system backup backup_from
row-backed-up s none = ap (λ (waiting : List LinkRow). step_in (archive_first (map (λ (w : LinkRow). w.link) waiting) (does steps.Backup))) none

-- a restore takes one step, and then its answer is told
pub row-restore : (s : State) (target : Target) → next_step (first_run (restore_to target ∷ []) s) ≡ Some (steps.Restore target)
unfolding comes_to expansion system
row-restore s target = refl

pub row-restored : (s : State) (target : Target) → (after 2 (first_run (restore_to target ∷ []) s)).told ≡ line_text [] 1 (step s (steps.Restore target)).0
unfolding turn comes_to expansion system
row-restored s target = refl

-- a tick takes its step, which has no record, and then it is told
pub row-tick : (s : State) → next_step (first_run (tick ∷ []) s) ≡ Some (steps.Tick 60)
unfolding comes_to expansion system
row-tick s = refl

pub row-ticked : (s : State) → (after 2 (first_run (tick ∷ []) s)).told ≡ line_text [] 1 answers.Done
unfolding turn comes_to expansion system step
row-ticked s = refl

pub row-moment : (s : State) → (after 2 (first_run (tick ∷ []) s)).state.moment ≡ min (s.moment + 60) (2 ^ 64 - 1)
unfolding turn comes_to expansion system step
row-moment s = refl

pub row-unwritten : (s : State) → written 2 (first_run (tick ∷ []) s) ≡ []
unfolding turn comes_to expansion system writes
row-unwritten s = refl

-- at the greatest moment it stays there, and a tick that would pass it comes to it
pub row-greatest : (s : State) → (after 2 (first_run (tick ∷ []) (record s { moment = 2 ^ 64 - 1 }))).state.moment ≡ 2 ^ 64 - 1
unfolding turn comes_to expansion system step
row-greatest s = refl

pub row-passing : (s : State) → (after 2 (first_run (tick ∷ []) (record s { moment = 2 ^ 64 - 60 }))).state.moment ≡ 2 ^ 64 - 1
unfolding turn comes_to expansion system step
row-passing s = refl

pub row-below : (s : State) → (after 2 (first_run (tick ∷ []) (record s { moment = 2 ^ 64 - 62 }))).state.moment ≡ 2 ^ 64 - 2
unfolding turn comes_to expansion system step
row-below s = refl

-- a command takes its step, and then its answer is told, before the next line is
pub row-command : (s : State) (cmd : FileCmd) → next_step (first_run (command cmd ∷ bad ∷ []) s) ≡ Some (steps.File cmd)
unfolding comes_to expansion file
row-command s cmd = refl

pub row-told : (s : State) (cmd : FileCmd) → (after 3 (first_run (command cmd ∷ bad ∷ []) s)).told ≡ line_text [] 1 (step s (steps.File cmd)).0 ++ line_text [] 2 (answers.Refused (refusals.BadLine 3))
unfolding turn comes_to expansion file
row-told s cmd = refl

pub row-end : (s : State) (cmd : FileCmd) → IsAtEnd (after 3 (first_run (command cmd ∷ bad ∷ []) s))
unfolding turn comes_to expansion file
row-end s cmd = refl

-- the next line begins without answers
pub row-next : (s : State) (cmd : FileCmd) → (after 2 (first_run (command cmd ∷ command cmd ∷ []) s)).answers ≡ []
unfolding turn comes_to expansion file
row-next s cmd = refl

-- the records of a turn are those of its step
pub row-written : (s : State) (cmd : FileCmd) → written 1 (first_run (command cmd ∷ []) s) ≡ writes s (steps.File cmd) ++ []
unfolding comes_to expansion file
row-written s cmd = refl
