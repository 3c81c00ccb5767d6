-- What contracts see of a bench in memory.
use Rattle.std.specs.Prelude.{◌≡◌, ◌⊎◌, ℕ, ◌/◌, List, [], ◌∷◌, ◌++◌, length, take, if◌then◌else◌, None}
use Rattle.dl_base.specs.declared.area.Area.{Area}
use Rattle.dl_base.specs.Outside.{Outside}
use Rattle.dl_bench.specs.declared.call.Call.{Call}
use Rattle.dl_bench.specs.declared.call.Call.TheVariants as calls
use Rattle.dl_bench.specs.declared.event.Event.{Event}
use Rattle.dl_bench.specs.declared.event.Event.TheVariants as events
use Rattle.dl_bench.specs.declared.event.Pick.{Pick}
use Rattle.dl_bench.specs.Replay.{state_after, picked, outside_of}
use Rattle.dl_bench.specs.Tallies.{Tally, fresh, is_due, counted, hungry, faults}

-- what happened to the areas and the told bytes, and what was counted
pub record Trace : Type 0 where
  pub events : List Event
  pub tally : Tally

-- the bench as what stands outside
abbrev pub seen : Trace → Outside
seen t = outside_of t.events (faults t.tally)

-- the bytes that an area has, and all that was told
abbrev pub content : Trace → Area → List ℕ
content t = (state_after t.events).kept

abbrev pub told : Trace → List ℕ
told t = (state_after t.events).told

-- with one more event
abbrev pub added : Trace → Event → Trace
added t e = record t { events = t.events ++ e ∷ [] }

-- after a call that did nothing but count
abbrev pub asked : Trace → Call → Trace
asked t call = record t { tally = counted t.tally call }

-- after a call that failed: it was listed or past the fuse, or it found no memory
abbrev pub failed : Trace → Call → Trace
failed t call = record t { tally = (if is_due t.tally call then counted t.tally call else hungry (counted t.tally call)) }

-- After a call to tell that failed. One that was to fail has told half of the bytes, if there was memory for them.
abbrev pub HasFailedSaying : List ℕ → Trace → Trace → Type 0
HasFailedSaying bytes old new = (new ≡ failed old calls.Say) ⊎ (new ≡ added (asked old calls.Say) (events.Say (take (length bytes / 2) bytes)))

-- a bench as a crash of the old one leaves it
pub record IsCrashed (pick : Pick) (old new : Trace) : Type 0 where
  pub areas : (a : Area) → content new a ≡ picked pick (state_after old.events) a
  -- which a crash of the old one may leave, and all of it is synced
  pub images : (a : Area) → (seen old).image a (content new a)
  pub synced : (a : Area) (c : List ℕ) → (seen new).image a c → c ≡ content new a
  pub told : told new ≡ []
  pub tally : new.tally ≡ fresh [] None
