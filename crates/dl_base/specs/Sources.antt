-- What a source gives.
use Rattle.std.specs.Prelude.{◌≡◌, ◌⊎◌, ℕ, ◌+◌, ◌<◌, ◌≤◌, ◌^◌, List, ◌++◌, Option, Some}

-- these bytes were the first of the rest
abbrev pub Took : List ℕ → Option (List ℕ) → Option (List ℕ) → Type 0
Took bytes old new = (left : List ℕ) → old ≡ Some left → (later : List ℕ) × (new ≡ Some later) × (left ≡ bytes ++ later)

-- a count rose, or it stands at its last value
abbrev pub RoseFrom : ℕ → ℕ → Type 0
RoseFrom before now = (before < now) ⊎ (2 ^ 64 ≤ now + 1)
