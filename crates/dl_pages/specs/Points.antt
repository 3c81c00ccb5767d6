-- Where the items of a list that pass a test end.
use Rattle.std.specs.Prelude.{◌≡◌, ℕ, ◌≤◌, Bool, true, false, List, [], ◌∷◌, length, take, drop}
use Rattle.std.specs.List.{list_all, list_any}

-- no item that fails a test is before one that passes it
abbrev pub IsPartitioned : {T : Type 0} → (T → Bool) → List T → Type 0
IsPartitioned test [] = Unit {0}
IsPartitioned test (x ∷ xs) = (test x ≡ false → list_any test xs ≡ false) × IsPartitioned test xs

-- the items before a place pass a test, and no other one does
pub record IsPartitionPoint {T : Type 0} (test : T → Bool) (xs : List T) (i : ℕ) : Type 0 where
  pub within : i ≤ length xs
  pub front : list_all test (take i xs) ≡ true
  pub rest : list_any test (drop i xs) ≡ false
