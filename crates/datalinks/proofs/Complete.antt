-- An end whose causes are all ruled out.
use Rattle.std.proofs.Common.{◌≡◌, ◌≤◌, ℕ, List, length, refl, Option, Some, arith}
use Rattle.dl_base.specs.Limits.{most_script_bytes}
use Rattle.dl_base.specs.Outside.{FaultCounted, Outside}
use Rattle.dl_base.specs.Sources.{RoseFrom}
use Rattle.dl_base.specs.declared.area.Area.{Area}
use Rattle.dl_base.specs.declared.fault.Full.{Full}
use Rattle.datalinks.proofs.Standing.{found-store}
use Rattle.datalinks.specs.Codes.{IsRunEnd, script_end}
use Rattle.datalinks.specs.Complete.{IsDone}
use Rattle.datalinks.specs.Run.{Begun, HasRoom, IsFullAt, IsNoStore}
use Rattle.datalinks.specs.Script.{IsTooLong}
use Rattle.datalinks.specs.declared.script.ScriptFault.{ScriptFault}
use Rattle.datalinks.specs.declared.script.ScriptFault.TheVariants as scripts
use Rattle.datalinks.specs.declared.status.Status.{Status}
use Rattle.datalinks.specs.declared.status.Status.TheVariants as status
use Rattle.sys_opening.specs.Begun.{AreFound}

pub run-done : (end : Status) (run : Begun) (o n : Outside) → AreFound run.lists run.folds o → IsRunEnd end → (end ≡ status.Device → FaultCounted o n)
    → ((area : Area) (place : ℕ) → end ≡ status.NotAStore area place → IsNoStore area place o n)
    → ((full : Full) → end ≡ status.Full full → IsFullAt run full o n)
    → HasRoom run o n → IsDone end
run-done status.Done run o n found is device none full room = tt
run-done status.Usage run o n found is device none full room = is
run-done status.Device run o n found is device none full room = room.calm (device refl)
run-done status.Source run o n found is device none full room = is
run-done (status.NotAStore area place) run o n found is device none full room = found-store run.lists run.folds o found n area place (none area place refl)
run-done (status.Full f) run o n found is device none full room = room.room f (full f refl)
run-done (status.TooLong count) run o n found is device none full room = is
run-done status.Memory run o n found is device none full room = tt

pub script-done : (fault : ScriptFault) (script : List ℕ) (left later : Option (List ℕ)) (before now : ℕ) → left ≡ Some script → length script ≤ most_script_bytes → (RoseFrom before now → ⊥)
    → (fault ≡ scripts.Source → RoseFrom before now) → ((n : ℕ) → fault ≡ scripts.TooLong n → IsTooLong n left later) → IsDone (script_end fault)
script-done scripts.Source script left later before now is short calm source long = calm (source refl)
script-done (scripts.TooLong n) script left later before now is short calm source long =
    let far = long n refl in absurd (omega (arith, far.count, far.longer script is, short))
script-done scripts.Memory script left later before now is short calm source long = tt
