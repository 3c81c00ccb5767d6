-- The fault of a step whose append failed.
use Rattle.dl_base.specs.declared.fault.AppendFault.{AppendFault}
use Rattle.dl_base.specs.declared.fault.AppendFault.TheVariants as append
use Rattle.dl_base.specs.declared.fault.StepFault.{StepFault}
use Rattle.dl_base.specs.declared.fault.StepFault.TheVariants as step

abbrev pub step_fault : AppendFault → StepFault
step_fault append.Device = step.Device
step_fault (append.Full full) = step.Full full
