-- What a host is seen as that tells no content.
use Rattle.std.specs.Prelude.{ℕ, Bool, true, List, Option, None, Some}
use Rattle.dl_base.specs.Outside.{Outside}
use Rattle.dl_host.specs.Hosts.{Hold}

-- nothing is claimed of what a crash leaves
abbrev pub blind : Outside
blind = record { reads = λ a. None; told = None; image = λ a c. ⊥; moment = 0; since = λ t p. ⊥; faults = 0 }

-- and nothing of the names
abbrev pub held_where : Bool → Hold
held_where locked = record { has_lock = locked; is_named = λ a. true }

abbrev pub TellsNothing : Option (List ℕ) → Type 0
TellsNothing None = Unit {0}
TellsNothing (Some bytes) = ⊥
