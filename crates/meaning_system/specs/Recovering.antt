-- Areas and states: what areas recover to.
use Rattle.meaning_areas.specs.Areas.{Areas, AreasStand}
use Rattle.meaning_system.specs.State.{State, stored}

-- THE AREAS RECOVER to a state: they stand for the stored part of what settling leaves of it
abbrev pub Recovers : Areas → State → Type 0
Recovers x s = AreasStand x (stored s)
