-- Which ends are left where no cause of another is there.
use Rattle.dl_base.specs.Outside.{Outside}
use Rattle.meaning_areas.specs.Areas.{Areas, AreasStand}
use Rattle.meaning_areas.specs.Stands.{Stored}
use Rattle.sys_owners.specs.Owned.{AreTold}
use Rattle.datalinks.specs.declared.status.Status.{Status}
use Rattle.datalinks.specs.declared.status.Status.TheVariants as status

-- the whole script was done, or memory was wanting
abbrev pub IsDone : Status → Type 0
IsDone status.Done = Unit {0}
IsDone status.Memory = Unit {0}
IsDone _ = ⊥

-- the ends of a run whose script was read, and of one whose areas were opened
abbrev pub WasRead : Status → Type 0
WasRead status.Done = Unit {0}
WasRead status.Device = Unit {0}
WasRead (status.NotAStore area place) = Unit {0}
WasRead (status.Full full) = Unit {0}
WasRead _ = ⊥

abbrev pub WasOpened : Status → Type 0
WasOpened status.Done = Unit {0}
WasOpened (status.Full full) = Unit {0}
WasOpened _ = ⊥

-- what the areas read stands for something
abbrev pub StandsNow : Outside → Type 0
StandsNow o = (x : Areas) → AreTold x o → (s : Stored) × AreasStand x s
