-- Parts of an opening, one behind another, and what each of their ends leaves.
use Rattle.std.proofs.Common.{◌≡◌, inl, inr, ⊎_elim, ◌≤◌, ◌++◌, ℕ, List, Option, Some, None, ◌∙◌, ap, arith}
use Rattle.std.proofs.lemmas.List.{append_assoc}
use Rattle.dl_areas.proofs.Doing.{prefix-more}
use Rattle.dl_areas.proofs.Fitting.{fitting-front}
use Rattle.dl_areas.specs.Lists.{Journals, Lists, Write}
use Rattle.dl_areas.specs.Opening.{IsInBegin, IsInOpening, journals_with}
use Rattle.dl_areas.specs.Writing.{Does, LeavesPrefix, fitting}
use Rattle.dl_base.proofs.Moments.{moments_more}
use Rattle.dl_base.specs.Outside.{AtEveryMoment, CrashState, FaultCounted, Outside}
use Rattle.dl_base.specs.declared.fault.AppendFault.{AppendFault}
use Rattle.dl_base.specs.declared.fault.AppendFault.TheVariants as appends
use Rattle.sys_opening.specs.Faults.{open_fault_of}
use Rattle.sys_opening.specs.Halting.{Halts, WroteSome}
use Rattle.sys_opening.specs.declared.fault.OpenFault.{OpenFault}
use Rattle.sys_opening.specs.declared.fault.OpenFault.TheVariants as faults

-- a count that rose since a later moment rose
pub risen : (o m n : Outside) → o.faults ≤ m.faults → FaultCounted m n → FaultCounted o n
risen o m n le r = ⊎_elim (λ lt. inl (omega (arith, le, lt))) (λ last. inr last) r

module _ (js ks ls : Journals) (ws vs : List Write) (o m n : Outside)
    (then : (us : List Write) (fault : Option AppendFault) → Does ks ls us fault m n → Does js ls (ws ++ us) fault o n) where
  -- records, and then a part that may halt
  pub halts-then : (fault : Option OpenFault) → Halts ks ls vs fault m n → Halts js ls (ws ++ vs) fault o n
  halts-then None d = then vs None d
  halts-then (Some faults.Device) d = then vs (Some appends.Device) d
  halts-then (Some (faults.Full full)) d = then vs (Some (appends.Full full)) d
  halts-then (Some faults.Memory) some = record {
    prefix = ws ++ some.prefix;
    rest = some.rest;
    parts = append_assoc ws some.prefix some.rest ∙ ap (λ (l : List Write). ws ++ l) some.parts;
    does = then some.prefix None some.does;
  }
  halts-then (Some (faults.NotAStore area place)) never = absurd never

-- records that met a fault
pub halts-stop : (js ks : Journals) (ws : List Write) (fault : AppendFault) (o n : Outside) → Does js ks ws (Some fault) o n → Halts js ks ws (Some (open_fault_of fault)) o n
halts-stop js ks ws appends.Device o n d = d
halts-stop js ks ws (appends.Full full) o n d = d

module _ (js ks : Journals) (ws : List Write) (m n : Outside) where
  -- nothing is told
  pub halts-told : (fault : Option OpenFault) → Halts js ks ws fault m n → n.told ≡ m.told
  halts-told None d = d.told
  halts-told (Some faults.Device) d = d.told
  halts-told (Some (faults.Full full)) d = d.told
  halts-told (Some faults.Memory) some = some.does.told
  halts-told (Some (faults.NotAStore area place)) never = absurd never

  -- behind the opening of the areas, the moments are those of an opening that writes the records
  module _ (limit : ℕ) (read : Lists) (o : Outside)
      (images : (us : List Write) (fault : Option AppendFault) → Does js ks us fault m n → AtEveryMoment (IsInBegin limit read us o) o n) where
    some-images : WroteSome js ks ws m n → AtEveryMoment (IsInBegin limit read ws o) o n
    some-images some = moments_more (IsInBegin limit read some.prefix o) (IsInBegin limit read ws o) o n wider (images some.prefix None some.does)
      where
        front : (rest : List Write) × (fitting (journals_with limit read) some.prefix ++ rest ≡ fitting (journals_with limit read) (some.prefix ++ some.rest))
        front = fitting-front some.prefix some.rest (journals_with limit read)

        all : fitting (journals_with limit read) some.prefix ++ front.0 ≡ fitting (journals_with limit read) ws
        all = front.1 ∙ ap (λ (l : List Write). fitting (journals_with limit read) l) some.parts

        wider : (p : CrashState) → IsInBegin limit read some.prefix o p → IsInBegin limit read ws o p
        wider p is = ⊎_elim
            (λ (before : IsInOpening o p). inl before)
            (λ (left : LeavesPrefix read (fitting (journals_with limit read) some.prefix) o p). inr (prefix-more read (fitting (journals_with limit read) some.prefix) front.0 (fitting (journals_with limit read) ws) o p all left))
            is

    pub halts-images : (fault : Option OpenFault) → Halts js ks ws fault m n → AtEveryMoment (IsInBegin limit read ws o) o n
    halts-images None d = images ws None d
    halts-images (Some faults.Device) d = images ws (Some appends.Device) d
    halts-images (Some (faults.Full full)) d = images ws (Some (appends.Full full)) d
    halts-images (Some faults.Memory) some = some-images some
    halts-images (Some (faults.NotAStore area place)) never = absurd never
