-- Rows: the items of a leaf, what an edit does to them, and where those that pass a test end.
use Rattle.std.proofs.Common.{◌≡◌, ℕ, zero, suc, ◌+◌, ◌<◌, ◌≤◌, Bool, true, false, ◌||◌, List, [], ◌∷◌, ◌++◌, length, take, drop, slice_index_or, refl, sym, ap, ◌∙◌, arith}
use Rattle.std.specs.List.{slice_set, insert, list_all, list_any, AllWithin}
use Rattle.std.specs.List.Sorted.{IsPartitionedBy}
use Rattle.dl_pages.specs.Points.{IsPartitioned, IsPartitionPoint}

module _ {T : Type 0} where
  -- a row with another item at a place
  pub set_here : (i : ℕ) (xs : List T) (x : T) → i < length xs → slice_set xs i x ≡ take i xs ++ x ∷ drop 1 (drop i xs)
  set_here i [] x within = absurd (omega (arith, within))
  set_here zero (y ∷ xs) x within = refl
  set_here (suc i) (y ∷ xs) x within = ap (λ l. y ∷ l) (set_here i xs x (omega (arith, within)))

  -- a row with one more item behind its first ones
  pub insert_behind : (n k i : ℕ) (xs : List T) (x : T) → n + k ≡ i → n ≤ length xs → take n xs ++ insert (drop n xs) k x ≡ insert xs i x
  insert_behind zero k i xs x is within = ap (λ j. insert xs j x) (omega (arith, is))
  insert_behind (suc n) k i [] x is within = absurd (omega (arith, within))
  insert_behind (suc n) k zero (y ∷ xs) x is within = absurd (omega (arith, is))
  insert_behind (suc n) k (suc i) (y ∷ xs) x is within = ap (λ l. y ∷ l) (insert_behind n k i xs x (omega (arith, is)) (omega (arith, within)))

  pub drop_next : (i : ℕ) (xs : List T) → drop (suc i) xs ≡ drop 1 (drop i xs)
  drop_next zero [] = refl
  drop_next zero (x ∷ xs) = refl
  drop_next (suc i) [] = refl
  drop_next (suc i) (x ∷ xs) = drop_next i xs

module _ {T : Type 0} (test : T → Bool) where
  fails-at : (xs : List T) (k : ℕ) (d : T) → list_any test xs ≡ false → k < length xs → test (slice_index_or xs k d) ≡ false
  fails-at [] k d none within = absurd (omega (arith, within))
  fails-at (x ∷ xs) zero d none within = first (test x) (list_any test xs) none
    where
      first : (a b : Bool) → (a || b) ≡ false → a ≡ false
      first true b e = cc e
      first false b e = refl
  fails-at (x ∷ xs) (suc k) d none within = fails-at xs k d (second (test x) (list_any test xs) none) (omega (arith, within))
    where
      second : (a b : Bool) → (a || b) ≡ false → b ≡ false
      second true b e = cc e
      second false b e = e

  pub partitioned_by : (xs : List T) → IsPartitioned test xs → IsPartitionedBy test xs
  partitioned_by [] f i j d low within e = absurd (omega (arith, within))
  partitioned_by (x ∷ xs) f zero zero d low within e = e
  partitioned_by (x ∷ xs) f zero (suc j) d low within e = by (test x) f.0
    where
      clash : test (slice_index_or xs j d) ≡ false → ⊥
      clash h = cc (sym e ∙ h)

      by : (b : Bool) → (b ≡ false → list_any test xs ≡ false) → b ≡ true
      by true f = refl
      by false f = absurd (clash (fails-at xs j d (f refl) (omega (arith, within))))
  partitioned_by (x ∷ xs) f (suc i) zero d low within e = absurd (omega (arith, low))
  partitioned_by (x ∷ xs) f (suc i) (suc j) d low within e = partitioned_by xs f.1 i j d (omega (arith, low)) (omega (arith, within)) e

  all-before : (xs : List T) (i : ℕ) → i ≤ length xs → ((k : ℕ) (d : T) → 0 ≤ k → k < i → test (slice_index_or xs k d) ≡ true) → list_all test (take i xs) ≡ true
  all-before xs zero within all = refl
  all-before [] (suc i) within all = refl
  all-before (x ∷ xs) (suc i) within all = rw (all 0 x (omega arith) (omega arith)) (all-before xs i (omega (arith, within)) (λ k d low high. all (suc k) d (omega arith) (omega (arith, high))))

  none-after : (xs : List T) (i : ℕ) → ((k : ℕ) (d : T) → i ≤ k → k < length xs → test (slice_index_or xs k d) ≡ false) → list_any test (drop i xs) ≡ false
  none-after [] zero none = refl
  none-after [] (suc i) none = refl
  none-after (x ∷ xs) zero none = rw (none 0 x (omega arith) (omega arith)) (none-after xs 0 (λ k d low high. none (suc k) d (omega arith) (omega (arith, high))))
  none-after (x ∷ xs) (suc i) none = none-after xs i (λ k d low high. none (suc k) d (omega (arith, low)) (omega (arith, high)))

  -- the point that a search of a slice tells
  pub point_of : (xs : List T) (i : ℕ) → i ≤ length xs → AllWithin (λ y. test y ≡ true) xs 0 i × AllWithin (λ y. test y ≡ false) xs i (length xs) → IsPartitionPoint test xs i
  point_of xs i within p = record { within = within; front = all-before xs i within p.0; rest = none-after xs i p.1 }
