-- An engine over areas that have lists, a step that it took, and what a crash leaves of that.
use Rattle.std.specs.Prelude.{◌≡◌, ◌≢◌, ◌⊎◌, ℕ, [], Result, Err}
use Rattle.dl_areas.specs.Lists.{AreKept, AreReady, Lists}
use Rattle.dl_base.specs.Outside.{AtEveryMoment, CrashState, Now, Outside}
use Rattle.dl_base.specs.declared.answer.Answer.{Answer}
use Rattle.dl_base.specs.declared.fault.StepFault.{StepFault}
use Rattle.dl_base.specs.declared.fault.StepFault.TheVariants as faults
use Rattle.dl_base.specs.declared.step.Step.{Step}
use Rattle.dl_base.specs.declared.step.Step.TheVariants as steps
use Rattle.dl_base.specs.declared.step.Target.{Target}
use Rattle.fm_manager.specs.Managed.{AreSpelled}
use Rattle.meaning_areas.specs.Lists.{Folds}
use Rattle.meaning_history.specs.Sound.{AreSound}
use Rattle.meaning_system.specs.Machine.{step}
use Rattle.meaning_system.specs.Recovering.{Recovers}
use Rattle.meaning_system.specs.State.{State}
use Rattle.meaning_system.specs.Writes.{writes}
use Rattle.sys_core.specs.Standing.{IsOf}
use Rattle.sys_core.specs.Steps.{Steps, draws}
use Rattle.sys_core.specs.declared.engine.Engine.{Engine}
use Rattle.sys_owners.specs.Owned.{AreFolded, journals_of}
use Rattle.sys_recovery.specs.Left.{IsAtomic, areas_of}

-- AN ENGINE STANDS OVER ITS AREAS in a state: it is in that state, the areas are ready and have these lists, and the lists stand for what
-- goes with the state. So it does behind its opening, and between any two of its steps.
pub record EngineStands (first : ℕ) (lists : Lists) (s : State) (w : Engine) (o : Outside) : Type 0 where
  pub is : IsOf first w s
  pub ready : AreReady (journals_of w.owners) o
  pub kept : AreKept (journals_of w.owners) lists o
  pub folds : Folds
  pub folded : AreFolded lists folds
  pub sound : AreSound first folds s

-- IT TOOK A STEP, and this is how that ended. The engine takes each step but Resolve. Its contracts say the rest: where it did not end for
-- want of memory, and no number that it draws was exhausted, the step's records have spellings.
pub record TookStep (first : ℕ) (x : Step) (s : State) (w v : Engine) (result : Result Answer StepFault) (o n : Outside) : Type 0 where
  pub atomic : IsAtomic x
  pub steps : Steps first x s w v result o n
  pub spelled : result ≢ Err faults.Memory → draws s x ≡ [] → AreSpelled (writes s x)

-- WHATEVER A CRASH LEAVES OF A CALL has P: at each moment of it, from its begin on, and behind its end
pub record Throughout (P : CrashState → Type 0) (o n : Outside) : Type 0 where
  -- also where the call is one of a run that began earlier
  pub moments : AtEveryMoment P o n
  pub since : (p : CrashState) → n.since o.moment p → P p
  pub behind : (p : CrashState) → Now n p → P p

-- all that a crash leaves at this moment recovers to the state
abbrev pub AllRecover : State → Outside → Type 0
AllRecover s o = (p : CrashState) → Now o p → Recovers (areas_of p) s

-- what a crash left recovers to the state before the step, or to that behind it
abbrev pub IsBeforeOrBehind : State → Step → CrashState → Type 0
IsBeforeOrBehind s x p = Recovers (areas_of p) s ⊎ Recovers (areas_of p) (step s x).1

-- of a step that is stopped: all that a crash leaves recovers to the state before it, or else it is a restore, and all recovers to that behind it
abbrev pub RecoverAlike : State → Step → Outside → Type 0
RecoverAlike s x o = AllRecover s o ⊎ ((t : Target) × (x ≡ steps.Restore t) × AllRecover (step s x).1 o)
