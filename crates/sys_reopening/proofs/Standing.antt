-- WHERE EVERY IMAGE STANDS.
use Rattle.std.proofs.Common.{◌≡◌, ℕ, ◌≤◌, List, Some, refl, sym}
use Rattle.dl_base.specs.Outside.{CrashState, IsLawful, Outside}
use Rattle.dl_base.specs.declared.area.Area.{Area}
use Rattle.dl_journal.specs.Records.{records}
use Rattle.meaning_areas.specs.Areas.{AreasStand}
use Rattle.meaning_areas.specs.Stands.{Stored}
use Rattle.sys_recovery.proofs.Reading.{same-lists-stand}
use Rattle.sys_recovery.specs.Left.{areas_by, areas_of}
use Rattle.sys_reopening.specs.Again.{EveryImageStands, EveryImageStandsAlike, StandAlike}

module _ (o : Outside) where
  -- where all stand for one and the same
  pub all-stand : (s : Stored) → ((q : Area → List ℕ) → ((a : Area) → o.image a (q a)) → AreasStand (areas_by q) s) → EveryImageStands o × EveryImageStandsAlike o s
  all-stand s every = ((λ q images. (s, every q images)), (λ q images. record { part = s; stand = every q images; alike = refl }))

  -- WHERE THEY HAVE THE RECORDS that a crash left
  module _ (p : CrashState) (s : Stored) (same : (a : Area) (c : List ℕ) → o.image a c → records c ≡ records (p.areas a)) where
    left-stands : (x : Stored) → AreasStand (areas_of p) x → (q : Area → List ℕ) → ((a : Area) → o.image a (q a)) → AreasStand (areas_by q) x
    left-stands x stand q images = same-lists-stand p.areas q (λ a. sym (same a (q a) (images a))) x stand

    pub crashed-stand : AreasStand (areas_of p) s → EveryImageStands o × EveryImageStandsAlike o s
    crashed-stand stand = all-stand s (left-stands s stand)

    pub left-alike : StandAlike (areas_of p) s → EveryImageStandsAlike o s
    left-alike alike q images = record { part = alike.part; stand = left-stands alike.part alike.stand q images; alike = alike.alike }

  -- BEHIND A RUN: what a crash leaves now is among what one at some moment since its begin leaves
  pub now-left : IsLawful o → (t : ℕ) (told : List ℕ) → t ≤ o.moment → o.told ≡ Some told → (P : CrashState → Type 0) → ((p : CrashState) → o.since t p → P p)
      → (q : Area → List ℕ) → ((a : Area) → o.image a (q a)) → P (record { areas = q; told = told })
  now-left lawful t told later is P each q images =
      let p : CrashState = record { areas = q; told = told } in
      each p (lawful.counts_now t p later (record { told = is; areas = images }))
