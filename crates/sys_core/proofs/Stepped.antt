-- HOW A STEP ENDS, by what it answers and the records that it wrote.
use Rattle.std.proofs.Common.{◌≡◌, ℕ, List, Result, Ok, Err, Some, None, sym, ap, subst}
use Rattle.std.specs.Result.{result_err}
use Rattle.dl_areas.specs.Lists.{Journals, Write}
use Rattle.dl_areas.specs.Writing.{Does, Ends}
use Rattle.dl_base.specs.Faults.{step_fault}
use Rattle.dl_base.specs.Outside.{Outside}
use Rattle.dl_base.specs.declared.answer.Answer.{Answer}
use Rattle.dl_base.specs.declared.fault.AppendFault.{AppendFault}
use Rattle.dl_base.specs.declared.fault.AppendFault.TheVariants as appends
use Rattle.dl_base.specs.declared.fault.StepFault.{StepFault}
use Rattle.dl_base.specs.declared.fault.StepFault.TheVariants as faults
use Rattle.dl_base.specs.declared.step.Step.{Step}
use Rattle.meaning_system.specs.Machine.{step}
use Rattle.meaning_system.specs.State.{State}
use Rattle.sys_core.specs.Standing.{IsOf}
use Rattle.sys_core.specs.Steps.{Steps, records_of}
use Rattle.sys_core.specs.declared.engine.Engine.{Engine}
use Rattle.sys_owners.specs.Owned.{journals_of}

ok_err : {T E : Type 0} (x : T) (e : E) → ◌≡◌ {A = Result T E} (Ok x) (Err e) → ⊥
ok_err x e is = cc

-- an append never wants memory
pub not-memory : {T : Type 0} (fault : AppendFault) → ◌≡◌ {A = Result T StepFault} (Err (step_fault fault)) (Err faults.Memory) → ⊥
not-memory appends.Device is = cc
not-memory (appends.Full full) is = cc

ends-fault : (js ks : Journals) (ws : List Write) (fault : AppendFault) (o n : Outside) → Does js ks ws (Some fault) o n → Ends js ks ws (Some (step_fault fault)) o n
ends-fault js ks ws appends.Device o n does = does
ends-fault js ks ws (appends.Full full) o n does = does

module _ (first : ℕ) (x : Step) (s : State) (w v : Engine) (o n : Outside) (ws : List Write) (records : records_of s x ≡ ws) where
  -- with an answer
  pub steps-done : (answer : Answer) (later : State) → step s x ≡ (answer, later) → IsOf first v later → Does (journals_of w.owners) (journals_of v.owners) ws None o n → Steps first x s w v (Ok answer) o n
  steps-done answer later stepped of does = record {
    answers = record { answer = sym (ap (λ (e : Answer × State). e.0) stepped); state = subst (λ (t : State). IsOf first v t) (sym (ap (λ (e : Answer × State). e.1) stepped)) of };
    memory = λ e. absurd (ok_err answer _ e);
    ends = subst (λ (ys : List Write). Does (journals_of w.owners) (journals_of v.owners) ys None o n) (sym records) does;
  }

  -- with a fault
  pub steps-fault : (fault : AppendFault) → Does (journals_of w.owners) (journals_of v.owners) ws (Some fault) o n → Steps first x s w v (Err (step_fault fault)) o n
  steps-fault fault does = record {
    answers = tt;
    memory = λ e. absurd (not-memory fault e);
    ends = subst (λ (ys : List Write). Ends (journals_of w.owners) (journals_of v.owners) ys (Some (step_fault fault)) o n) (sym records) (ends-fault (journals_of w.owners) (journals_of v.owners) ws fault o n does);
  }

-- over an engine with the same owners
pub steps-over : (first : ℕ) (x : Step) (s : State) (w k v : Engine) (r : Result Answer StepFault) (o n : Outside) → journals_of k.owners ≡ journals_of w.owners → Steps first x s k v r o n → Steps first x s w v r o n
steps-over first x s w k v r o n same steps = record {
  answers = steps.answers;
  memory = steps.memory;
  ends = subst (λ (js : Journals). Ends js (journals_of v.owners) (records_of s x) (result_err r) o n) same steps.ends;
}
