-- What a step does: to the engine, to its session's object, and to the areas.
use Rattle.std.specs.Prelude.{◌≡◌, ◌≢◌, ℕ, ◌+◌, List, [], ◌∷◌, ◌++◌, Result, Ok, Err, IfOk, OnOk, Option, Some, None}
use Rattle.std.specs.Result.{result_err}
use Rattle.db_txn.specs.Transaction.{Transaction}
use Rattle.dl_areas.specs.Lists.{Write, write_of}
use Rattle.dl_areas.specs.Writing.{Ends}
use Rattle.dl_base.specs.Faults.{step_fault}
use Rattle.dl_base.specs.Outside.{Outside}
use Rattle.dl_base.specs.declared.answer.Answer.{Answer}
use Rattle.dl_base.specs.declared.answer.Answer.TheVariants as answers
use Rattle.dl_base.specs.declared.area.Area.TheVariants as areas
use Rattle.dl_base.specs.declared.fault.AppendFault.{AppendFault}
use Rattle.dl_base.specs.declared.fault.Full.{Full}
use Rattle.dl_base.specs.declared.fault.StepFault.{StepFault}
use Rattle.dl_base.specs.declared.fault.StepFault.TheVariants as faults
use Rattle.dl_base.specs.declared.step.Step.{Step}
use Rattle.dl_base.specs.declared.step.Step.TheVariants as steps
use Rattle.fm_manager.specs.Managed.{as_writes}
use Rattle.meaning_areas.specs.Full.{draw_full}
use Rattle.meaning_system.specs.Machine.{step}
use Rattle.meaning_system.specs.State.{State, Txn, txn_of}
use Rattle.meaning_system.specs.Writes.{writes}
use Rattle.sys_core.specs.Seated.{shown_by}
use Rattle.sys_core.specs.Standing.{IsOf}
use Rattle.sys_core.specs.declared.engine.Engine.{Engine}
use Rattle.sys_owners.specs.Owned.{journals_of}

-- A number that is not left to draw, as a record that cannot be written: it comes before the records of its step.
abbrev pub undrawn : Option Full → List Write
undrawn None = []
undrawn (Some full) = write_of areas.Rows [] (Some full) ∷ []

-- BEGIN of a session without a transaction draws the next number, and so does a restore that is let through
abbrev pub draws_by : Option (ℕ × Txn) → ℕ → List Write
draws_by None next = undrawn (draw_full next)
draws_by (Some e) next = []

abbrev pub draws_for : Answer → ℕ → List Write
draws_for (answers.Restored c lost) next = undrawn (draw_full next)
draws_for answer next = []

abbrev pub draws : State → Step → List Write
draws s (steps.Begin session) = draws_by (txn_of s session) (s.drawn + 1)
draws s (steps.Restore t) = draws_for (step s (steps.Restore t)).0 (s.drawn + 1)
draws s x = []

-- the result of a step that takes no memory
abbrev pub as_step : Result Answer AppendFault → Result Answer StepFault
as_step (Ok answer) = Ok answer
as_step (Err fault) = Err (step_fault fault)

-- THE RECORDS OF A STEP, as they are written
abbrev pub records_of : State → Step → List Write
records_of s x = draws s x ++ as_writes (writes s x)

-- THE ENGINE TAKES A STEP of the machine: it answers as the machine, and is in its next state
pub record Answers (first : ℕ) (x : Step) (s : State) (v : Engine) (told : Answer) : Type 0 where
  pub answer : told ≡ (step s x).0
  pub state : IsOf first v (step s x).1

-- HOW A STEP ENDS, over an engine that is in a state: with an answer, or for want of memory, after which it is in the same state; or
-- with a fault, after which nothing is promised of it. At each moment the areas have a prefix of its records.
pub record Steps (first : ℕ) (x : Step) (s : State) (w v : Engine) (result : Result Answer StepFault) (o n : Outside) : Type 0 where
  pub answers : IfOk result (Answers first x s v)
  pub memory : result ≡ Err faults.Memory → IsOf first v s
  pub ends : Ends (journals_of w.owners) (journals_of v.owners) (records_of s x) (result_err result) o n

-- the same of a step that touches no area, wherever the areas are
pub record StepsInMemory (first : ℕ) (x : Step) (s : State) (w v : Engine) (result : Result Answer StepFault) : Type 0 where
  pub answers : IfOk result (Answers first x s v)
  pub memory : result ≡ Err faults.Memory → IsOf first v s
  pub journals : journals_of v.owners ≡ journals_of w.owners
  pub fits : OnOk result (records_of s x ≡ [])
  pub full : (f : Full) → result ≡ Err (faults.Full f) → records_of s x ≡ undrawn (Some f)
  pub no_device : result ≢ Err faults.Device

-- what a session's object has behind its step
pub record Shows (x : Step) (s : State) (before after : Transaction) (result : Result Answer StepFault) : Type 0 where
  pub shown : OnOk result (after ≡ shown_by before.session (txn_of (step s x).1 before.session))
  pub memory : result ≡ Err faults.Memory → after ≡ before
