-- A journal that is open on a bench.
use Rattle.std.specs.Prelude.{◌≡◌, ◌⊎◌, ℕ, ◌+◌, ◌<◌, ◌≤◌, ◌^◌, List, [], ◌∷◌, length, Option, Some, Ok, Err}
use Rattle.dl_base.specs.Outside.{Outside, ChangesOnly}
use Rattle.dl_base.specs.declared.area.Area.{Area}
use Rattle.dl_journal.specs.Extent.{Extent}
use Rattle.dl_journal.specs.Records.{AllAtRest, HasOldOrNew, size, records}

-- the journal's area has these bodies, whatever a crash leaves of it
pub record Keeps (journal : Extent) (bodies : List (List ℕ)) (o : Outside) : Type 0 where
  pub length : journal.length ≡ size bodies + 1
  pub fits : size bodies < 2 ^ 63
  pub images : AllAtRest bodies (o.image journal.area)

-- what an area reads has so many bytes at least, where it is told
abbrev pub Reaches : ℕ → Option (List ℕ) → Type 0
Reaches n reads = (told : List ℕ) → reads ≡ Some told → n ≤ length told

-- the journal's closing gate is there
abbrev pub IsOpen : Extent → Outside → Type 0
IsOpen journal o = Reaches journal.length (o.reads journal.area)

-- the journal after one more body of n bytes
abbrev pub grown : Extent → ℕ → Extent
grown journal n = record { area = journal.area; length = journal.length + 9 + n; limit = journal.limit }

-- an image from before the opening, or one that has the list which the area reads
abbrev pub IsOpening : Area → Outside → List ℕ → Type 0
IsOpening area old c = old.image area c ⊎ ((told : List ℕ) × (old.reads area ≡ Some told) × (records c ≡ records told))

-- the bodies are what the area reads, where that is told
abbrev pub IsList : List (List ℕ) → Option (List ℕ) → Type 0
IsList bodies reads = (told : List ℕ) → reads ≡ Some told → records told ≡ Ok bodies

-- what the area reads is no list, where that is told, and this is the place of the first bad record's gate
abbrev pub IsNoList : ℕ → Option (List ℕ) → Type 0
IsNoList place reads = (told : List ℕ) → reads ≡ Some told → records told ≡ Err place

-- where an area read fewer than two bytes, a crash then leaves the closed gate 0 alone
abbrev pub GetsFirstGate : Option (List ℕ) → (List ℕ → Type 0) → Type 0
GetsFirstGate before image = (told : List ℕ) → before ≡ Some told → length told < 2 → (c : List ℕ) → image c → c ≡ 0 ∷ []

-- what the area reads then is the list that it read before, where both are told
abbrev pub ReadsSameList : Option (List ℕ) → Option (List ℕ) → Type 0
ReadsSameList before after = (told c : List ℕ) → before ≡ Some told → after ≡ Some c → records c ≡ records told

-- nothing was changed: the area reads as before, and a crash leaves nothing that it might not have left before
pub record IsUnwritten (area : Area) (old new : Outside) : Type 0 where
  pub reads : new.reads area ≡ old.reads area
  pub images : ChangesOnly area (old.image area) old new

-- of each list that the journal keeps it has that list, without the body or with it
abbrev pub AddsOne : Extent → List ℕ → Outside → List ℕ → Type 0
AddsOne journal body o c = (bodies : List (List ℕ)) → Keeps journal bodies o → HasOldOrNew bodies body c
