-- Finite maps from lists of numbers, and changes of single entries.
use Rattle.std.specs.Prelude.{ℕ, Bool, List, [], ◌∷◌, Option, Some, None}
use Rattle.std.specs.Cmp.Lexicographic.{slice_cmp}
use Rattle.meaning_examples.specs.Maps as map
use Rattle.std.specs.Ordering.{nat_cmp, eq_by_cmp}

abbrev pub Keyed : Type 0 → Type 0
Keyed X = map.FinMap (slice_cmp nat_cmp) X

-- one and the same key
abbrev pub is_at : List ℕ → List ℕ → Bool
is_at q k = eq_by_cmp (slice_cmp nat_cmp) q k

-- the map with this, or nothing, at a key
abbrev pub put_at : {X : Type 0} → Keyed X → List ℕ → Option X → Keyed X
put_at m k (Some x) = map.insert m k x
put_at m k None = map.remove m k

-- the map with its entry at each of some keys changed
abbrev pub over : {X : Type 0} → List (List ℕ) → (List ℕ → Option X → Option X) → Keyed X → Keyed X
over [] change m = m
over (k ∷ ks) change m = over ks change (put_at m k (change k (map.get m k)))
