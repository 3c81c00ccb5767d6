-- What one record more in the area Files does, whatever journals the other areas have: here these hold no byte.
use Rattle.std.proofs.Common.{◌≡◌, ℕ, ◌+◌, ◌<◌, List, [], ◌∷◌, length, cond, Bool, true, false, nat_lt, refl, subst, arith, Option, Some, None}
use Rattle.std.proofs.lemmas.Bool.Decides.{nat_tests}
use Rattle.std.specs.Option.{option_or}
use Rattle.dl_areas.specs.Batch.{writes_in}
use Rattle.dl_areas.specs.Lists.{AreReady, Journals, Write, by_area, with_journal, write_of}
use Rattle.dl_areas.specs.Writing.{Does, DoesAlone, full_in}
use Rattle.dl_base.specs.Faults.{step_fault}
use Rattle.dl_base.specs.Outside.{Outside, FaultCounted}
use Rattle.dl_base.specs.declared.area.Area.{Area}
use Rattle.dl_base.specs.declared.area.Area.TheVariants as areas
use Rattle.dl_base.specs.declared.fault.AppendFault.{AppendFault}
use Rattle.dl_base.specs.declared.fault.AppendFault.TheVariants as appends
use Rattle.dl_base.specs.declared.fault.Full.{Full}
use Rattle.dl_base.specs.declared.fault.StepFault.TheVariants as steps
use Rattle.dl_base.specs.declared.file.FileCmd.{FileCmd}
use Rattle.dl_journal.specs.Extent.{Extent}
use Rattle.dl_journal.specs.Open.{IsOpen}
use Rattle.fs_files.proofs.Writing.{Asked, asked-record, asked-writes, extent-same}
use Rattle.fs_files.specs.Batch.{Batch, batch_write}
use Rattle.fs_files.specs.Store.{Catalog, IsFullWith, IsReady, extent, full_with, record_of}
use Rattle.meaning_areas.specs.FilesArea.{writes}

abbrev bare : Area → Extent
bare a = record { area = a; length = 0; limit = 0 }

-- the journal of Files among those
abbrev among : Extent → Journals
among j = by_area (bare areas.Rows) (bare areas.Links) j (bare areas.Archive) (bare areas.Backups)

bare-open : (a : Area) (o : Outside) → IsOpen (bare a) o
bare-open a o told is = omega arith

-- what is full where a number passes a limit
past : (limit n : ℕ) (g f : Full) (b : Bool) → nat_lt limit n ≡ b → option_or (cond b (Some g) None) None ≡ Some f → (f ≡ g) × (limit < n)
past limit n g f true lt is = (cc, grind (arith, nat_tests))
past limit n g f false lt is = absurd cc

not-past : (limit n : ℕ) (g : Full) (b : Bool) → nat_lt limit n ≡ b → limit < n → option_or (cond b (Some g) None) None ≡ None → ⊥
not-past limit n g true lt less is = absurd cc
not-past limit n g false lt less is = absurd (grind (arith, nat_tests))

module _ (c : Catalog) (o : Outside) (gate : IsReady c o) where
  ready : AreReady (among (extent c)) o
  ready = record { areas = at; gates = open_at }
    where
      at : (a : Area) → (among (extent c) a).area ≡ a
      at areas.Rows = refl
      at areas.Links = refl
      at areas.Files = refl
      at areas.Archive = refl
      at areas.Backups = refl

      open_at : (a : Area) → IsOpen (among (extent c) a) o
      open_at areas.Rows = bare-open areas.Rows o
      open_at areas.Links = bare-open areas.Links o
      open_at areas.Files = gate
      open_at areas.Archive = bare-open areas.Archive o
      open_at areas.Backups = bare-open areas.Backups o

  module _ (k : Extent) (body : List ℕ) (n : Outside) where
    does-among : (fault : Option AppendFault) → DoesAlone (extent c) k (write_of areas.Files body None ∷ []) fault o n → Does (among (extent c)) (with_journal k (among (extent c))) (write_of areas.Files body None ∷ []) fault o n
    does-among fault d = d.does (among (extent c)) ready refl

    -- it is full only where the record would pass the limit
    pub alone-full : (full : Full) → DoesAlone (extent c) k (write_of areas.Files body None ∷ []) (Some (appends.Full full)) o n → (full ≡ full_with c body) × IsFullWith c body
    unfolding full_in
    alone-full full d = past c.limit (c.length + 9 + length body) (full_with c body) full (nat_lt c.limit (c.length + 9 + length body)) refl ((does-among (Some (appends.Full full)) d).full full refl)

    -- and with no fault it does not
    pub alone-room : DoesAlone (extent c) k (write_of areas.Files body None ∷ []) None o n → IsFullWith c body → ⊥
    unfolding full_in
    alone-room d passes = not-past c.limit (c.length + 9 + length body) (full_with c body) (nat_lt c.limit (c.length + 9 + length body)) refl passes ((does-among None d).fits refl)

    pub alone-device : DoesAlone (extent c) k (write_of areas.Files body None ∷ []) (Some appends.Device) o n → FaultCounted o n
    alone-device d = (does-among (Some appends.Device) d).device refl

-- A COMMAND'S BATCH

module _ (was now : Catalog) (cmd : FileCmd) (made : Batch) (a : Asked was now cmd made) (later : Catalog) (o n : Outside) where
  -- it writes what the command writes
  pub does-asked : (fault : Option AppendFault) → DoesAlone (extent now) (extent later) (batch_write made ∷ []) fault o n → DoesAlone (extent was) (extent later) (writes_in areas.Files (writes was.files cmd)) fault o n
  does-asked fault d =
      subst (λ (j : Extent). DoesAlone j (extent later) (writes_in areas.Files (writes was.files cmd)) fault o n) (extent-same was now cmd made a)
      (subst (λ (ws : List Write). DoesAlone (extent now) (extent later) ws fault o n) (asked-writes was now cmd made a) d)

  module _ (gate : IsReady was o) where
    asked-one : (fault : Option AppendFault) → DoesAlone (extent now) (extent later) (batch_write made ∷ []) fault o n → DoesAlone (extent was) (extent later) (write_of areas.Files (record_of was.files cmd) None ∷ []) fault o n
    asked-one fault d =
        subst (λ (b : List ℕ). DoesAlone (extent was) (extent later) (write_of areas.Files b None ∷ []) fault o n) (asked-record was now cmd made a)
        (subst (λ (j : Extent). DoesAlone j (extent later) (batch_write made ∷ []) fault o n) (extent-same was now cmd made a) d)

    pub full-asked : (fault : AppendFault) (full : Full) → DoesAlone (extent now) (extent later) (batch_write made ∷ []) (Some fault) o n → step_fault fault ≡ steps.Full full
        → (full ≡ full_with was (record_of was.files cmd)) × IsFullWith was (record_of was.files cmd)
    full-asked appends.Device full d is = absurd cc
    full-asked (appends.Full f) full d is =
        let same : f ≡ full = cc in
        subst (λ (x : Full). (x ≡ full_with was (record_of was.files cmd)) × IsFullWith was (record_of was.files cmd)) same
        (alone-full was o gate (extent later) (record_of was.files cmd) n f (asked-one (Some (appends.Full f)) d))

    pub room-asked : DoesAlone (extent now) (extent later) (batch_write made ∷ []) None o n → IsFullWith was (record_of was.files cmd) → ⊥
    room-asked d = alone-room was o gate (extent later) (record_of was.files cmd) n (asked-one None d)

    pub device-asked : (fault : AppendFault) → DoesAlone (extent now) (extent later) (batch_write made ∷ []) (Some fault) o n → step_fault fault ≡ steps.Device → FaultCounted o n
    device-asked appends.Device d is = alone-device was o gate (extent later) (record_of was.files cmd) n (asked-one (Some appends.Device) d)
    device-asked (appends.Full f) d is = absurd cc
