-- Faults of an opening.
use Rattle.dl_base.specs.declared.area.Area.{Area}
use Rattle.dl_base.specs.declared.fault.AppendFault.{AppendFault}
use Rattle.dl_base.specs.declared.fault.AppendFault.TheVariants as append
use Rattle.dl_base.specs.declared.fault.BeginFault.{BeginFault}
use Rattle.dl_base.specs.declared.fault.BeginFault.TheVariants as begin
use Rattle.sys_opening.specs.declared.fault.OpenFault.{OpenFault}
use Rattle.sys_opening.specs.declared.fault.OpenFault.TheVariants as faults

-- that of one area
abbrev pub open_fault : Area → BeginFault → OpenFault
open_fault area begin.Device = faults.Device
open_fault area (begin.NotAJournal place) = faults.NotAStore area place
open_fault area begin.Memory = faults.Memory

-- that of an append
abbrev pub open_fault_of : AppendFault → OpenFault
open_fault_of append.Device = faults.Device
open_fault_of (append.Full full) = faults.Full full
