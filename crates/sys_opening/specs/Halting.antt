-- What a part of an opening does that takes memory between its records.
use Rattle.std.specs.Prelude.{◌≡◌, ◌++◌, List, [], ◌∷◌, Option, Some, None}
use Rattle.dl_areas.specs.Lists.{Journals, Write}
use Rattle.dl_areas.specs.Writing.{Does}
use Rattle.dl_base.specs.Outside.{Outside}
use Rattle.dl_base.specs.declared.fault.AppendFault.{AppendFault}
use Rattle.dl_base.specs.declared.fault.AppendFault.TheVariants as appends
use Rattle.fm_manager.specs.Managed.{IsSpelled, as_writes}
use Rattle.meaning_areas.specs.Lists.{Written}
use Rattle.meaning_areas.specs.Full.{number_full}
use Rattle.sys_opening.specs.declared.fault.OpenFault.{OpenFault}
use Rattle.sys_opening.specs.declared.fault.OpenFault.TheVariants as faults

-- It wrote the first of its records, and stopped for want of memory.
pub record WroteSome (js ks : Journals) (ws : List Write) (o n : Outside) : Type 0 where
  pub prefix : List Write
  pub rest : List Write
  pub parts : prefix ++ rest ≡ ws
  pub does : Does js ks prefix None o n

-- A PART OF AN OPENING that writes these records ends so. It never finds that areas are no store.
abbrev pub Halts : Journals → Journals → List Write → Option OpenFault → Outside → Outside → Type 0
Halts js ks ws None o n = Does js ks ws None o n
Halts js ks ws (Some faults.Device) o n = Does js ks ws (Some appends.Device) o n
Halts js ks ws (Some (faults.Full full)) o n = Does js ks ws (Some (appends.Full full)) o n
Halts js ks ws (Some faults.Memory) o n = WroteSome js ks ws o n
Halts js ks ws (Some (faults.NotAStore area place)) o n = ⊥

-- EACH RECORD HAS A SPELLING that may be written: one whose number is exhausted never is
abbrev pub HaveSpellings : List Written → Type 0
HaveSpellings [] = Unit {0}
HaveSpellings (x ∷ xs) = (number_full x ≡ None → IsSpelled x) × HaveSpellings xs

-- WHAT A PART OF AN OPENING TRIED of the records that it writes: the first of them, and all where it met no fault
pub record Tries (js ks : Journals) (xs : List Written) (fault : Option OpenFault) (o n : Outside) : Type 0 where
  pub tried : List Written
  pub rest : List Written
  pub parts : tried ++ rest ≡ xs
  pub spelled : HaveSpellings tried
  pub ending : Option AppendFault
  pub does : Does js ks (as_writes tried) ending o n
  pub whole : fault ≡ None → rest ≡ []
