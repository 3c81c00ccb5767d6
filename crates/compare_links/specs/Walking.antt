-- Items of a list so far.
use Rattle.std.specs.Prelude.{◌≡◌, ℕ, ◌<◌, List, Option, Some, slice_get}

-- what holds of the first items of a list
abbrev pub HoldsBelow : {A : Type 0} → (A → Type 0) → List A → ℕ → Type 0
HoldsBelow {A} P xs n = (k : ℕ) (x : A) → k < n → slice_get xs k ≡ Some x → P x

-- what holds of an item, if there is one
abbrev pub IfThere : {A : Type 0} → (A → Type 0) → Option A → Type 0
IfThere {A} P o = (x : A) → o ≡ Some x → P x
