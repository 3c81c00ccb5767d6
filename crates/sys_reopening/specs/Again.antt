-- Areas that a crash left: that they are read so, and for what they stand but for the numbers of openings.
use Rattle.std.specs.Prelude.{◌≡◌, ℕ, List, Some}
use Rattle.dl_base.specs.Outside.{CrashState, Outside}
use Rattle.dl_base.specs.declared.area.Area.{Area}
use Rattle.meaning_areas.specs.Areas.{Areas, AreasStand}
use Rattle.meaning_areas.specs.Stands.{Stored}
use Rattle.meaning_opening.specs.Fronts.{without_openings}
use Rattle.sys_recovery.specs.Left.{areas_by}

-- the five areas read as a crash left them
abbrev pub ReadsAs : CrashState → Outside → Type 0
ReadsAs p o = (a : Area) → o.reads a ≡ Some (p.areas a)

-- whatever a crash leaves of the five areas stands for something
abbrev pub EveryImageStands : Outside → Type 0
EveryImageStands o = (q : Area → List ℕ) → ((a : Area) → o.image a (q a)) → (x : Stored) × AreasStand (areas_by q) x

-- THE AREAS STAND FOR THIS, but for the numbers of openings
pub record StandAlike (x : Areas) (s : Stored) : Type 0 where
  pub part : Stored
  pub stand : AreasStand x part
  pub alike : without_openings part ≡ without_openings s

-- so does whatever a crash leaves of the five areas
abbrev pub EveryImageStandsAlike : Outside → Stored → Type 0
EveryImageStandsAlike o s = (q : Area → List ℕ) → ((a : Area) → o.image a (q a)) → StandAlike (areas_by q) s
