-- What a call that writes records does, at each moment of it and however it ends.
use Rattle.std.specs.Prelude.{◌≡◌, ◌≢◌, ℕ, ◌+◌, ◌-◌, ◌≤◌, ◌^◌, min, List, [], ◌∷◌, ◌++◌, length, nat_lt, if◌then◌else◌, Option, Some, None}
use Rattle.std.specs.Option.{option_or}
use Rattle.dl_base.specs.Outside.{Outside, CrashState, AtEveryMoment, TellsFront, FaultCounted}
use Rattle.dl_base.specs.declared.area.Area.{Area}
use Rattle.dl_base.specs.declared.fault.AppendFault.{AppendFault}
use Rattle.dl_base.specs.declared.fault.AppendFault.TheVariants as appends
use Rattle.dl_base.specs.declared.fault.Full.{Full}
use Rattle.dl_base.specs.declared.fault.Full.TheVariants as fulls
use Rattle.dl_base.specs.declared.fault.StepFault.{StepFault}
use Rattle.dl_base.specs.declared.fault.StepFault.TheVariants as steps
use Rattle.dl_journal.specs.Extent.{Extent}
use Rattle.dl_journal.specs.Open.{IsOpen}
use Rattle.dl_areas.specs.Lists.{Lists, Journals, Write, puts, grown_by, all_grown, with_journal, AreReady, AreKept, HasLists}

-- how many bytes the record's area would have with it
abbrev pub length_with : Journals → Write → ℕ
length_with js w = (js w.area).length + 9 + length w.body

-- the area is full where these pass the limit
abbrev pub past_limit : Journals → Write → Option Full
past_limit js w = if nat_lt (js w.area).limit (length_with js w) then Some (fulls.Area w.area (min (length_with js w) (2 ^ 64 - 1))) else None

-- why a record is not written, if it is not: a number that is exhausted comes before the limit
abbrev pub refused : Journals → Write → Option Full
refused js w = option_or w.exhausted (past_limit js w)

-- what is full at the first of the records that does not fit
unfoldable pub full_in : Journals → List Write → Option Full
full_in js [] = None
full_in js (w ∷ ws) = option_or (refused js w) (full_in (grown_by w js) ws)

-- these records, but none where something is full
abbrev pub unless_full : Option Full → List Write → List Write
unless_full (Some f) ws = []
unless_full None ws = ws

-- the records that fit: those before the first that does not
unfoldable pub fitting : Journals → List Write → List Write
fitting js [] = []
fitting js (w ∷ ws) = unless_full (refused js w) (w ∷ fitting (grown_by w js) ws)

-- A crash left the lists with a prefix of these records, and nothing more was told.
pub record LeavesPrefix (lists : Lists) (ws : List Write) (o : Outside) (p : CrashState) : Type 0 where
  pub told : o.told ≡ Some p.told
  pub prefix : List Write
  pub rest : List Write
  pub parts : prefix ++ rest ≡ ws
  pub has : HasLists (puts prefix lists) p

-- A moment while bytes are told: each area has its list, and a front of the bytes is told.
pub record IsTelling (lists : Lists) (bytes : List ℕ) (o : Outside) (p : CrashState) : Type 0 where
  pub told : TellsFront bytes o.told p.told
  pub has : HasLists lists p

-- A CALL WRITES THESE RECORDS, in order, and ends with this fault or with none. The first journals are those before the call,
-- the others those behind it.
pub record Does (js ks : Journals) (ws : List Write) (fault : Option AppendFault) (o n : Outside) : Type 0 where
  pub told : n.told ≡ o.told
  pub faults : o.faults ≤ n.faults
  -- at each moment a prefix of the records that fit is there, and nothing of the one that does not
  pub images : (lists : Lists) → AreKept js lists o → AtEveryMoment (LeavesPrefix lists (fitting js ws) o) o n
  -- with no fault all fit, and all are there
  pub fits : fault ≡ None → full_in js ws ≡ None
  pub grew : fault ≡ None → ks ≡ all_grown ws js
  pub done : fault ≡ None → (lists : Lists) → AreKept js lists o → AreKept ks (puts ws lists) n
  pub ready : fault ≡ None → AreReady js o → AreReady ks n
  -- it is full at the first that does not fit, and those before it are there
  pub full : (f : Full) → fault ≡ Some (appends.Full f) → full_in js ws ≡ Some f
  pub before : (f : Full) → fault ≡ Some (appends.Full f) → (lists : Lists) → AreKept js lists o → AreKept ks (puts (fitting js ws) lists) n
  -- the device fails only where its count of faults rose, and with no fault none was counted
  pub device : fault ≡ Some appends.Device → FaultCounted o n
  pub clean : fault ≡ None → n.faults ≡ o.faults

-- A loop that writes all of these records has written those that are not left.
pub record Doing (js ks : Journals) (all left : List Write) (o n : Outside) : Type 0 where
  pub done : List Write
  pub parts : done ++ left ≡ all
  pub does : Does js ks done None o n

-- What a step that writes these records does. It takes its memory before it writes, so want of memory is a call that wrote none.
abbrev pub Ends : Journals → Journals → List Write → Option StepFault → Outside → Outside → Type 0
Ends js ks ws None o n = Does js ks ws None o n
Ends js ks ws (Some steps.Device) o n = Does js ks ws (Some appends.Device) o n
Ends js ks ws (Some (steps.Full f)) o n = Does js ks ws (Some (appends.Full f)) o n
Ends js ks ws (Some steps.Memory) o n = Does js ks [] None o n

-- A CALL ON ONE JOURNAL writes these records into its area, whatever journals the other areas have. It is what an owner of one area
-- says of its calls, beside what it says of the fold that it holds.
pub record DoesAlone (j k : Extent) (ws : List Write) (fault : Option AppendFault) (o n : Outside) : Type 0 where
  pub area : k.area ≡ j.area
  pub others : (a : Area) → a ≢ j.area → n.reads a ≡ o.reads a
  pub gate : fault ≡ None → IsOpen j o → IsOpen k n
  pub does : (js : Journals) → AreReady js o → js j.area ≡ j → Does js (with_journal k js) ws fault o n

-- the same of a step of an owner
pub record EndsAlone (j k : Extent) (ws : List Write) (fault : Option StepFault) (o n : Outside) : Type 0 where
  pub area : k.area ≡ j.area
  pub others : (a : Area) → a ≢ j.area → n.reads a ≡ o.reads a
  pub gate : fault ≡ None → IsOpen j o → IsOpen k n
  pub ends : (js : Journals) → AreReady js o → js j.area ≡ j → Ends js (with_journal k js) ws fault o n
