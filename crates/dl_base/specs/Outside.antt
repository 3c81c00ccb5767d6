-- What stands outside the program: five areas and the told bytes, now and after a crash at any moment.
use Rattle.std.specs.Prelude.{◌≡◌, ◌≢◌, ◌⊎◌, ℕ, ◌+◌, ◌≤◌, max, List, ◌++◌, length, take, drop, Option, Some, None, IsSome}
use Rattle.dl_base.specs.declared.area.Area.{Area}
use Rattle.dl_base.specs.Sources.{RoseFrom}

-- what is found after a crash: the bytes of each area, and all that was told
pub record CrashState : Type 0 where
  pub areas : Area → List ℕ
  pub told : List ℕ

-- What a bench is seen as. Content and told bytes are there where the bench tells them.
pub record Outside : Type 1 where
  -- what an area reads
  pub reads : Area → Option (List ℕ)
  -- all that was told
  pub told : Option (List ℕ)
  -- what a crash at this moment may leave in an area
  pub image : Area → List ℕ → Type 0
  -- the time, which doesn't fall
  pub moment : ℕ
  -- what a crash at some moment from that one on might have left
  pub since : ℕ → CrashState → Type 0
  -- how often the bench has failed
  pub faults : ℕ

-- at this moment a crash may leave this
pub record Now (o : Outside) (p : CrashState) : Type 0 where
  pub told : o.told ≡ Some p.told
  pub areas : (a : Area) → o.image a (p.areas a)

pub record IsLawful (o : Outside) : Type 0 where
  -- an area as it reads is one of its images
  pub as_it_reads : (a : Area) (bytes : List ℕ) → o.reads a ≡ Some bytes → o.image a bytes
  -- this moment is one of those since an earlier one
  pub counts_now : (t : ℕ) (p : CrashState) → t ≤ o.moment → Now o p → o.since t p
  -- since this moment there is no other
  pub only_now : (p : CrashState) → o.since o.moment p → Now o p

-- after a write of n bytes that a crash cuts short: any bytes in the range and past the old end, the same elsewhere
pub record TornFrom (at n : ℕ) (old new : List ℕ) : Type 0 where
  pub before : take at new ≡ take at old
  pub after : drop (at + n) new ≡ drop (at + n) old
  pub no_shorter : length old ≤ length new
  pub no_longer : length new ≤ max (length old) (at + n)

-- what a torn write may leave, of what a crash might have left before it
abbrev pub Torn : ℕ → ℕ → (List ℕ → Type 0) → List ℕ → Type 0
Torn at n image c = (d : List ℕ) × image d × TornFrom at n d c

-- n bytes of these from there on
abbrev pub portion : ℕ → ℕ → List ℕ → List ℕ
portion at n bytes = take n (drop at bytes)

-- these bytes with others in their place from there on
abbrev pub replaced : ℕ → List ℕ → List ℕ → List ℕ
replaced at bytes old = take at old ++ (bytes ++ drop (at + length bytes) old)

abbrev pub overwritten : ℕ → List ℕ → Option (List ℕ) → Option (List ℕ)
overwritten at bytes None = None
overwritten at bytes (Some old) = Some (replaced at bytes old)

abbrev pub extended : List ℕ → Option (List ℕ) → Option (List ℕ)
extended bytes None = None
extended bytes (Some told) = Some (told ++ bytes)

-- The count of faults rose, or it stands at its last value.
abbrev pub FaultCounted : Outside → Outside → Type 0
FaultCounted old new = RoseFrom old.faults new.faults

-- A moment of a call that began at old and touches one area alone: Q holds of what a crash leaves there.
pub record During (area : Area) (Q : List ℕ → Type 0) (old : Outside) (p : CrashState) : Type 0 where
  pub told : old.told ≡ Some p.told
  pub here : Q (p.areas area)
  pub others : (a : Area) → a ≢ area → old.image a (p.areas a)

-- A call touches one area alone, and Q holds of what a crash leaves there at any moment of it.
pub record ChangesOnly (area : Area) (Q : List ℕ → Type 0) (old new : Outside) : Type 0 where
  pub later : old.moment ≤ new.moment
  pub faults : old.faults ≤ new.faults
  pub told : new.told ≡ old.told
  pub still_reads : IsSome (old.reads area) → IsSome (new.reads area)
  pub others_read : (a : Area) → a ≢ area → new.reads a ≡ old.reads a
  pub here : (c : List ℕ) → new.image area c → Q c
  pub others : (a : Area) → a ≢ area → (c : List ℕ) → new.image a c → old.image a c
  pub since : (t : ℕ) (p : CrashState) → t ≤ old.moment → new.since t p → old.since t p ⊎ During area Q old p
  pub keeps : (t : ℕ) (p : CrashState) → old.since t p → new.since t p

-- told so far, and a front of these bytes
abbrev pub TellsFront : List ℕ → Option (List ℕ) → List ℕ → Type 0
TellsFront bytes old new = (n : ℕ) × (old_told : List ℕ) × (old ≡ Some old_told) × (new ≡ old_told ++ take n bytes)

-- A call tells a front of these bytes and touches no area.
pub record Says (bytes : List ℕ) (old new : Outside) : Type 0 where
  pub later : old.moment ≤ new.moment
  pub faults : old.faults ≤ new.faults
  pub still_told : IsSome old.told → IsSome new.told
  pub told : (told : List ℕ) → new.told ≡ Some told → TellsFront bytes old.told told
  pub reads : (a : Area) → new.reads a ≡ old.reads a
  pub images : (a : Area) (c : List ℕ) → new.image a c → old.image a c
  pub since : (t : ℕ) (p : CrashState) → t ≤ old.moment → new.since t p → old.since t p ⊎ (TellsFront bytes old.told p.told × ((a : Area) → old.image a (p.areas a)))
  pub keeps : (t : ℕ) (p : CrashState) → old.since t p → new.since t p

-- P holds of what a crash leaves at any moment of a run of calls.
pub record AtEveryMoment (P : CrashState → Type 0) (old new : Outside) : Type 0 where
  pub later : old.moment ≤ new.moment
  pub faults : old.faults ≤ new.faults
  pub since : (t : ℕ) (p : CrashState) → t ≤ old.moment → new.since t p → old.since t p ⊎ P p
  pub keeps : (t : ℕ) (p : CrashState) → old.since t p → new.since t p
