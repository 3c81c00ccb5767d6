-- What a run holds of its folder, and how its files are named.
use Rattle.std.specs.Prelude.{◌≡◌, ℕ, ◌+◌, ◌-◌, ◌^◌, ◌≤◌, ◌==◌, ◌&&◌, min, nat_lt, Bool, true, false, if◌then◌else◌, List, codes, Result, Ok, Err}
use Rattle.dl_base.specs.declared.area.Area.{Area}
use Rattle.dl_base.specs.declared.area.Area.TheVariants.{Rows, Links, Files, Archive, Backups}
use Rattle.dl_base.specs.Outside.{Outside}
use Rattle.dl_host.specs.declared.host.Stop.{Stop}
use Rattle.dl_host.specs.declared.host.Stop.TheVariants.{Interrupted, Failed}

pub record Hold : Type 0 where
  -- no other run has the folder
  pub has_lock : Bool
  -- the name of the area's file outlives a crash
  pub is_named : Area → Bool

-- what was held is held
pub record Stays (old new : Hold) : Type 0 where
  pub lock : old.has_lock ≡ true → new.has_lock ≡ true
  pub names : (a : Area) → old.is_named a ≡ true → new.is_named a ≡ true

-- the name of an area's file in the folder
abbrev pub name_of : Area → List ℕ
name_of Rows = codes "datalinks.rows"
name_of Links = codes "datalinks.links"
name_of Files = codes "datalinks.files"
name_of Archive = codes "datalinks.archive"
name_of Backups = codes "datalinks.backups"

-- the same outside, with this count of faults
abbrev pub with_faults : ℕ → Outside → Outside
with_faults n o = record o { faults = n }

-- a count behind a call that is counted, or not; it stands at its last value
abbrev pub count_after : Bool → ℕ → ℕ
count_after counts n = if counts then min (n + 1) (2 ^ 64 - 1) else n

-- why a call stopped: it failed, or a signal came first
abbrev pub is_fault : Stop → Bool
is_fault Interrupted = false
is_fault Failed = true

abbrev pub is_interruption : Stop → Bool
is_interruption Interrupted = true
is_interruption Failed = false

-- whether a call failed; one that was interrupted did not
abbrev pub has_failed : {A : Type 0} → Result A Stop → Bool
has_failed (Ok a) = false
has_failed (Err why) = is_fault why

abbrev pub was_interrupted : {A : Type 0} → Result A Stop → Bool
was_interrupted (Ok a) = false
was_interrupted (Err why) = is_interruption why

-- whether a call for so many bytes failed, or did none of them
abbrev pub falls_short : ℕ → Result ℕ Stop → Bool
falls_short asked (Ok n) = (n == 0) && nat_lt 0 asked
falls_short asked (Err why) = is_fault why

-- calls were interrupted so often, 2^64 - 1 times, that the count of it stands at its last value
abbrev pub NeverLeftAlone : ℕ → Type 0
NeverLeftAlone interruptions = 2 ^ 64 ≤ interruptions + 1
