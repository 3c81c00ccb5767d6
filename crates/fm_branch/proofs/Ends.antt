-- How a step ends that wants memory.
use Rattle.std.proofs.Common.{◌≡◌, List, Some, Result, Err, sym, subst}
use Rattle.std.specs.Result.{result_err}
use Rattle.dl_areas.specs.Lists.{Write}
use Rattle.dl_areas.specs.Writing.{EndsAlone}
use Rattle.dl_base.specs.Outside.{Outside}
use Rattle.dl_base.specs.declared.fault.StepFault.{StepFault}
use Rattle.dl_base.specs.declared.fault.StepFault.TheVariants as steps
use Rattle.dl_journal.specs.Extent.{Extent}

-- before it writes, with the journal as it was
pub ended_before : (j k : Extent) (ws : List Write) (r : Result Unit StepFault) (o : Outside) → EndsAlone j j ws (Some steps.Memory) o o → k ≡ j → r ≡ Err steps.Memory
    → EndsAlone j k ws (result_err r) o o
ended_before j k ws r o ends same is =
    subst (λ (x : Extent). EndsAlone j x ws (result_err r) o o) (sym same)
    (subst (λ (x : Result Unit StepFault). EndsAlone j j ws (result_err x) o o) (sym is) ends)
