-- Settling all transactions that are still open, in the order in which they were decided.
use Rattle.std.specs.Prelude.{◌≡◌, ◌≢◌, ◌⊎◌, ℕ, List, [], ◌∷◌, Option, Some, None}
use Rattle.meaning_examples.specs.Settling.{Moved, Kept, settle_one}
use Rattle.meaning_examples.specs.Apart.{Apart}

abbrev pub settle_open : Option Moved → Kept → Kept
settle_open None k = k
settle_open (Some m) k = settle_one m k

abbrev pub settled : (ℕ → Option Moved) → List ℕ → Kept → Kept
settled open_at [] k = k
settled open_at (t ∷ ts) k = settled open_at ts (settle_open (open_at t) k)

abbrev pub IsIn : ℕ → List ℕ → Type 0
IsIn t [] = ⊥
IsIn t (u ∷ us) = (t ≡ u) ⊎ IsIn t us

abbrev pub IsNot : ℕ → List ℕ → Type 0
IsNot t [] = Unit {0}
IsNot t (u ∷ us) = (u ≢ t) × IsNot t us

abbrev pub AreDistinct : List ℕ → Type 0
AreDistinct [] = Unit {0}
AreDistinct (t ∷ ts) = IsNot t ts × AreDistinct ts

-- no two of some have anything in common
abbrev pub AreApart : (ℕ → Option Moved) → List ℕ → Type 0
AreApart open_at ts = (t u : ℕ) → IsIn t ts → IsIn u ts → t ≢ u → (a b : Moved) → open_at t ≡ Some a → open_at u ≡ Some b → Apart a b
