-- What the device calls of an opening and of an append leave, call by call.
use Rattle.std.proofs.Common.{◌≡◌, ℕ, ◌+◌, ◌≤◌, ◌<◌, List, [], ◌∷◌, length, sym, ◌∙◌, subst, arith, inl, inr, Option, Some, None, IfSome}
use Rattle.dl_base.specs.declared.area.Area.{Area}
use Rattle.dl_base.specs.Outside.{Outside, Torn, TornFrom, ChangesOnly}
use Rattle.dl_base.proofs.Moments.{touches_more, touches_then}
use Rattle.dl_journal.specs.Extent.{Extent}
use Rattle.dl_journal.specs.Open.{Keeps, AddsOne, IsOpening}
use Rattle.dl_journal.specs.Records.{size, IsAtRest, AllAtRest}
use Rattle.dl_journal.specs.Steps.{AllStaged, StillAtRest, HasGateTorn, IsShort}
use Rattle.dl_journal.proofs.Records.{records-short}
use Rattle.dl_journal.proofs.Writes.{torn_behind, torn_gate}

module _ (area : Area) (image : List ℕ → Type 0) (place : ℕ) where
  -- a write behind the gate
  behind : (at n : ℕ) (o m : Outside) → place + 1 ≤ at → ((c : List ℕ) → o.image area c → StillAtRest image place c)
      → ChangesOnly area (Torn at n (o.image area)) o m → ChangesOnly area (StillAtRest image place) o m
  behind at n o m le here t = touches_more area _ (StillAtRest image place) o m still t
    where
      still : (c : List ℕ) → Torn at n (o.image area) c → StillAtRest image place c
      still c torn bodies fits all = torn_behind bodies at n torn.0 c (omega (arith, le, fits)) (here torn.0 torn.1 bodies fits all) torn.2

  -- one more call behind the gate
  pub goes_behind : (at n : ℕ) (o m l : Outside) → place + 1 ≤ at → ChangesOnly area (StillAtRest image place) o m → ChangesOnly area (Torn at n (m.image area)) m l → ChangesOnly area (StillAtRest image place) o l
  goes_behind at n o m l le first t = touches_then area (StillAtRest image place) o m l first (behind at n m l le first.here t)

pub first_behind : (area : Area) (place at n : ℕ) (o m : Outside) → place + 1 ≤ at → ChangesOnly area (Torn at n (o.image area)) o m → ChangesOnly area (StillAtRest (o.image area) place) o m
first_behind area place at n o m le t = behind area (o.image area) place at n o m le (λ c left bodies fits all. all c left) t

-- a call that changes nothing in the area
pub stays : (area : Area) (Q : List ℕ → Type 0) (o m l : Outside) → ChangesOnly area Q o m → ChangesOnly area (m.image area) m l → ChangesOnly area Q o l
stays area Q o m l first t = touches_then area Q o m l first (touches_more area _ Q m l first.here t)

-- the write of the gate
pub on_gate : (area : Area) (place : ℕ) (o m : Outside) → ChangesOnly area (Torn place 1 (o.image area)) o m → ChangesOnly area (HasGateTorn (o.image area) place) o m
on_gate area place o m t = touches_more area _ (HasGateTorn (o.image area) place) o m torn t
  where
    torn : (c : List ℕ) → Torn place 1 (o.image area) c → HasGateTorn (o.image area) place c
    torn c t bodies body fits all = torn_gate bodies body t.0 c (all t.0 t.1) (subst (λ (k : ℕ). TornFrom k 1 t.0 c) (sym fits) t.2)

module _ (area : Area) (place : ℕ) (journal : Extent) (body : List ℕ) (o : Outside) where
  kept : area ≡ journal.area → (bodies : List (List ℕ)) → Keeps journal bodies o → AllAtRest bodies (o.image area)
  kept at bodies keeps = subst (λ (a : Area). AllAtRest bodies (o.image a)) (sym at) keeps.images

  -- the first step adds nothing yet
  pub staged_adds : (m : Outside) → area ≡ journal.area → place + 1 ≡ journal.length → ChangesOnly area (StillAtRest (o.image area) place) o m → ChangesOnly area (AddsOne journal body o) o m
  staged_adds m at long t = touches_more area _ (AddsOne journal body o) o m (λ c still bodies keeps. inl (still bodies (omega (arith, long, keeps.length)) (kept at bodies keeps))) t

  -- the second adds the body or it doesn't
  pub opened_adds : (m n : Outside) → area ≡ journal.area → place + 1 ≡ journal.length
      → ((bodies : List (List ℕ)) → size bodies ≡ place → AllAtRest bodies (o.image area) → AllStaged bodies body (m.image area))
      → ChangesOnly area (HasGateTorn (m.image area) place) m n → ChangesOnly area (AddsOne journal body o) m n
  opened_adds m n at long staged t = touches_more area _ (AddsOne journal body o) m n adds t
    where
      adds : (c : List ℕ) → HasGateTorn (m.image area) place c → AddsOne journal body o c
      adds c torn bodies keeps = let fits : size bodies ≡ place = omega (arith, long, keeps.length) in torn bodies body fits (staged bodies fits (kept at bodies keeps))

-- an area that is the empty list in each image
abbrev pub AreShort : (List ℕ → Type 0) → Type 0
AreShort image = (c : List ℕ) → image c → IsShort c

-- short, and there was an image before
abbrev pub ShortAfter : (List ℕ → Type 0) → List ℕ → Type 0
ShortAfter image c = (d : List ℕ) × image d × IsShort c

-- the write of the first gate
pub on_first_gate : (area : Area) (o m : Outside) → AreShort (o.image area) → ChangesOnly area (Torn 0 1 (o.image area)) o m → ChangesOnly area (ShortAfter (o.image area)) o m
on_first_gate area o m short t = touches_more area _ (ShortAfter (o.image area)) o m (λ c torn. (torn.0, torn.1, omega (arith, short torn.0 torn.1, torn.2.no_longer))) t

-- nothing written yet
pub opening_read : (area : Area) (o m : Outside) → ChangesOnly area (o.image area) o m → ChangesOnly area (IsOpening area o) o m
opening_read area o m read = touches_more area _ (IsOpening area o) o m (λ c old. inl old) read

-- a first gate in an area that was read as short
pub opening_short : (area : Area) (o m n : Outside) → ((c : List ℕ) → m.image area c → (o.reads area ≡ Some c) × IsShort c)
    → ChangesOnly area (o.image area) o m → ChangesOnly area (ShortAfter (m.image area)) m n → ChangesOnly area (IsOpening area o) o n
opening_short area o m n was read t = touches_then area (IsOpening area o) o m n (opening_read area o m read) (touches_more area _ (IsOpening area o) m n closing t)
  where
    closing : (c : List ℕ) → ShortAfter (m.image area) c → IsOpening area o c
    closing c short = let is = was short.0 short.1 in inr (short.0, is.0, records-short c short.2 ∙ sym (records-short short.0 is.1))

-- an opening goes on behind a read
pub opening_on : (area : Area) (o m n : Outside) → m.reads area ≡ o.reads area → ChangesOnly area (o.image area) o m → ChangesOnly area (IsOpening area m) m n → ChangesOnly area (IsOpening area o) o n
opening_on area o m n same read t = touches_then area (IsOpening area o) o m n (opening_read area o m read) (touches_more area _ (IsOpening area o) m n wider t)
  where
    wider : (c : List ℕ) → IsOpening area m c → IsOpening area o c
    wider c (inl left) = inl (read.here c left)
    wider c (inr told) = inr (told.0, sym same ∙ told.1, told.2)

-- a place before the closing gate is within what was read
pub gate_within : (last : Option ℕ) (place : ℕ) (bytes : List ℕ) → IfSome last (λ gate. gate < place) → place < length bytes → IfSome last (λ gate. gate < length bytes)
gate_within None place bytes before more = tt
gate_within (Some gate) place bytes before more = omega (arith, before, more)

-- the list ends before the area does
pub ends_within : (bodies : List (List ℕ)) (c : List ℕ) (place : ℕ) → size bodies ≡ place → IsAtRest bodies c → place + 1 ≤ length c
ends_within bodies c place fits at_rest = omega (arith, fits, at_rest.more)

-- a journal with no record
pub keeps_none : (journal : Extent) (bodies : List (List ℕ)) (o : Outside) → journal.length ≡ 1 → bodies ≡ [] → AllAtRest [] (o.image journal.area) → Keeps journal bodies o
keeps_none journal bodies o long none closed = subst (λ (l : List (List ℕ)). Keeps journal l o) (sym none) (record { length = long; fits = omega arith; images = closed })

pub none_has : {A P : Type 0} (l : List A) → l ≡ [] → 0 < length l → P
none_has [] none some = absurd (omega arith)
none_has (x ∷ l) none some = absurd (cc none)
