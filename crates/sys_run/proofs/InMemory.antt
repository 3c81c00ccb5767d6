-- A step in memory is a step over areas that stay as they are.
use Rattle.std.proofs.Common.{◌≡◌, ◌≢◌, ℕ, List, [], Option, Some, None, Result, Ok, Err, OnOk, refl, sym, subst}
use Rattle.std.specs.Result.{result_err}
use Rattle.dl_areas.proofs.Appending.{does-exhausted}
use Rattle.dl_areas.proofs.Doing.{does-none}
use Rattle.dl_areas.specs.Lists.{Journals, Write}
use Rattle.dl_areas.specs.Writing.{Does, Ends}
use Rattle.dl_base.specs.Outside.{Outside}
use Rattle.dl_base.specs.declared.answer.Answer.{Answer}
use Rattle.dl_base.specs.declared.fault.AppendFault.TheVariants as appends
use Rattle.dl_base.specs.declared.fault.AppendFault.{AppendFault}
use Rattle.dl_base.specs.declared.fault.Full.{Full}
use Rattle.dl_base.specs.declared.fault.StepFault.{StepFault}
use Rattle.dl_base.specs.declared.fault.StepFault.TheVariants as faults
use Rattle.dl_base.specs.declared.statement.Stmt.{Stmt}
use Rattle.dl_base.specs.declared.step.Step.{Step}
use Rattle.dl_base.specs.declared.step.Step.TheVariants as steps
use Rattle.fm_manager.specs.Managed.{AreSpelled}
use Rattle.meaning_system.specs.State.{State}
use Rattle.meaning_system.specs.Writes.{writes}
use Rattle.sys_core.specs.Steps.{Steps, StepsInMemory, records_of, undrawn}
use Rattle.sys_core.specs.declared.engine.Engine.{Engine}
use Rattle.sys_owners.specs.Owned.{journals_of}

pub in-memory : (first : ℕ) (x : Step) (s : State) (w v : Engine) (result : Result Answer StepFault) (o : Outside) → StepsInMemory first x s w v result → Steps first x s w v result o o
in-memory first x s w v result o m = record { answers = m.answers; memory = m.memory; ends = by result m.fits m.full m.no_device }
  where
    js : Journals
    js = journals_of w.owners

    there : (f : Option AppendFault) (ws : List Write) → Does js js ws f o o → Does js (journals_of v.owners) ws f o o
    there f ws d = subst (λ (ks : Journals). Does js ks ws f o o) (sym m.journals) d

    by : (result : Result Answer StepFault) → OnOk result (records_of s x ≡ []) → ((f : Full) → result ≡ Err (faults.Full f) → records_of s x ≡ undrawn (Some f)) → result ≢ Err faults.Device
        → Ends js (journals_of v.owners) (records_of s x) (result_err result) o o
    by (Ok a) fits full never = there None (records_of s x) (subst (λ (ws : List Write). Does js js ws None o o) (sym fits) (does-none js o))
    by (Err faults.Memory) fits full never = there None [] (does-none js o)
    by (Err faults.Device) fits full never = absurd (never refl)
    by (Err (faults.Full f)) fits full never = there (Some (appends.Full f)) (records_of s x) (subst (λ (ws : List Write). Does js js ws (Some (appends.Full f)) o o) (sym (full f refl)) (does-exhausted js _ f o refl))

-- BEGIN, statements and the clock write nothing
pub begin-spelled : (s : State) (n : ℕ) → AreSpelled (writes s (steps.Begin n))
unfolding writes
begin-spelled s n = tt

pub statement-spelled : (s : State) (n : ℕ) (stmt : Stmt) → AreSpelled (writes s (steps.Statement n stmt))
unfolding writes
statement-spelled s n stmt = tt

pub tick-spelled : (s : State) (n : ℕ) → AreSpelled (writes s (steps.Tick n))
unfolding writes
tick-spelled s n = tt
