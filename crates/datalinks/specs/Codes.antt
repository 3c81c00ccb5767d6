-- The exit status of each end.
use Rattle.std.specs.Prelude.{ℕ}
use Rattle.dl_base.specs.declared.fault.StepFault.{StepFault}
use Rattle.dl_base.specs.declared.fault.StepFault.TheVariants as steps
use Rattle.sys_opening.specs.declared.fault.OpenFault.{OpenFault}
use Rattle.sys_opening.specs.declared.fault.OpenFault.TheVariants as opens
use Rattle.datalinks.specs.declared.script.ScriptFault.{ScriptFault}
use Rattle.datalinks.specs.declared.script.ScriptFault.TheVariants as scripts
use Rattle.datalinks.specs.declared.status.Status.{Status}
use Rattle.datalinks.specs.declared.status.Status.TheVariants as status

abbrev pub code_of : Status → ℕ
code_of status.Done = 0
code_of status.Usage = 2
code_of status.Device = 3
code_of status.Source = 4
code_of (status.NotAStore area place) = 5
code_of (status.Full full) = 6
code_of (status.TooLong n) = 7
code_of status.Memory = 9

-- the ends of a run whose words are right and whose script was read
abbrev pub IsRunEnd : Status → Type 0
IsRunEnd status.Usage = ⊥
IsRunEnd status.Source = ⊥
IsRunEnd (status.TooLong n) = ⊥
IsRunEnd _ = Unit {0}

-- the end of words that name no command
abbrev pub IsUsage : Status → Type 0
IsUsage status.Usage = Unit {0}
IsUsage status.Memory = Unit {0}
IsUsage _ = ⊥

-- the end that a fault of an opening makes, and that of a step
abbrev pub opening_end : OpenFault → Status
opening_end opens.Device = status.Device
opening_end (opens.NotAStore area place) = status.NotAStore area place
opening_end (opens.Full full) = status.Full full
opening_end opens.Memory = status.Memory

abbrev pub step_end : StepFault → Status
step_end steps.Device = status.Device
step_end (steps.Full full) = status.Full full
step_end steps.Memory = status.Memory

abbrev pub script_end : ScriptFault → Status
script_end scripts.Source = status.Source
script_end (scripts.TooLong n) = status.TooLong n
script_end scripts.Memory = status.Memory
