-- A step in memory.
use Rattle.std.proofs.Common.{◌≡◌, ℕ, ◌+◌, ◌<◌, ◌^◌, ◌++◌, List, [], ◌∷◌, Some, Result, Ok, Err, OnOk, refl, sym, ap, ◌∙◌}
use Rattle.dl_areas.specs.Lists.{Lists, Write}
use Rattle.dl_base.specs.Outside.{Outside}
use Rattle.dl_base.specs.declared.answer.Answer.{Answer}
use Rattle.dl_base.specs.declared.fault.StepFault.{StepFault}
use Rattle.dl_base.specs.declared.step.Step.{Step}
use Rattle.fm_manager.specs.Managed.{as_writes}
use Rattle.meaning_areas.specs.Lists.{Folds, Written, folds_on}
use Rattle.meaning_areas.specs.Stands.{IsStand, stored_of}
use Rattle.meaning_history.specs.Sound.{AreSound}
use Rattle.meaning_system.specs.Machine.{step}
use Rattle.meaning_system.specs.State.{State, stored}
use Rattle.meaning_system.specs.Writes.{writes}
use Rattle.sys_core.specs.Steps.{StepsInMemory, draws}
use Rattle.sys_core.specs.declared.engine.Engine.{Engine}
use Rattle.sys_recovery.specs.Left.{IsAtomic}
use Rattle.sys_run.proofs.Images.{no-cons}
use Rattle.sys_promises.specs.Taken.{EngineStands}

-- the laws of steps that it needs
abbrev pub Before : Type 0
Before = (first : ℕ) (f : Folds) (s : State) → AreSound first f s → IsStand f (stored s)

abbrev pub Whole : Type 0
Whole = (first : ℕ) (f : Folds) (s : State) (x : Step) → AreSound first f s → s.drawn + 1 < 2 ^ 32 → IsAtomic x
    → (later : Folds) × (folds_on (Some f) (writes s x) ≡ Some later) × IsStand later (stored (step s x).1)

-- of two parts without a record none has one
second-none : (a b : List Write) → a ++ b ≡ [] → b ≡ []
second-none [] b is = is
second-none (y ∷ a) b is = no-cons y (a ++ b) is

none-written : (xs : List Written) → as_writes xs ≡ [] → xs ≡ []
none-written [] is = refl
none-written (x ∷ xs) is = absurd cc

same-some : (f later : Folds) → Some f ≡ Some later → f ≡ later
same-some f later is = cc

pub same-stored : Before → Whole → (first : ℕ) (lists : Lists) (x : Step) (s : State) (w v : Engine) (result : Result Answer StepFault) (o : Outside) → EngineStands first lists s w o → IsAtomic x → StepsInMemory first x s w v result
    → OnOk result (stored (step s x).1 ≡ stored s)
same-stored before whole first lists x s w v (Err e) o stands atomic m = tt
same-stored before whole first lists x s w v (Ok a) o stands atomic m =
    let none : writes s x ≡ [] = none-written (writes s x) (second-none (draws s x) (as_writes (writes s x)) m.fits) in
    let (later, folds, stand) = whole first stands.folds s x stands.sound stands.is.few atomic in
    let same : stands.folds ≡ later = same-some stands.folds later (ap (folds_on (Some stands.folds)) (sym none) ∙ folds) in
    stand.is ∙ ap stored_of (sym same) ∙ sym (before first stands.folds s stands.sound).is
