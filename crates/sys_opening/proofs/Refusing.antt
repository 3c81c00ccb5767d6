-- Which area's opening a fault of all five was.
use Rattle.std.proofs.Common.{◌≡◌, ℕ, Result, Err, subst}
use Rattle.dl_base.specs.declared.area.Area.{Area}
use Rattle.dl_base.specs.declared.fault.BeginFault.{BeginFault}
use Rattle.dl_base.specs.declared.fault.BeginFault.TheVariants as begin
use Rattle.dl_base.specs.declared.fault.Full.{Full}
use Rattle.meaning_areas.specs.Areas.{Areas, folds_of}
use Rattle.sys_opening.specs.Faults.{open_fault}
use Rattle.sys_opening.specs.declared.fault.OpenFault.{OpenFault}
use Rattle.sys_opening.specs.declared.fault.OpenFault.TheVariants as faults

pub fault-same : {T : Type 0} (e f : OpenFault) → ◌≡◌ {A = Result T OpenFault} (Err e) (Err f) → e ≡ f
fault-same e f is = cc

pub refused-by : (a area : Area) (fault : BeginFault) (place : ℕ) → open_fault a fault ≡ faults.NotAStore area place → (a ≡ area) × (fault ≡ begin.NotAJournal place)
refused-by a area begin.Device place is = absurd cc
refused-by a area (begin.NotAJournal p) place is = (cc, cc)
refused-by a area begin.Memory place is = absurd cc

pub by-device : (a : Area) (fault : BeginFault) → open_fault a fault ≡ faults.Device → fault ≡ begin.Device
by-device a begin.Device is = cc
by-device a (begin.NotAJournal p) is = absurd cc
by-device a begin.Memory is = absurd cc

pub never-full : (a : Area) (fault : BeginFault) (full : Full) → open_fault a fault ≡ faults.Full full → ⊥
never-full a begin.Device full is = cc
never-full a (begin.NotAJournal p) full is = cc
never-full a begin.Memory full is = cc

pub refused-at : (a area : Area) (place : ℕ) (x : Areas) → a ≡ area → folds_of x ≡ Err (a, place) → folds_of x ≡ Err (area, place)
refused-at a area place x same is = let P : Area → Type 0 = λ b. folds_of x ≡ Err (b, place) in subst P same is
