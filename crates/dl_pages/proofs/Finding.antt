-- The least number under a key, at the point of the key.
use Rattle.std.proofs.Common.{◌≡◌, ℕ, zero, suc, ◌<◌, true, false, Some, List, [], ◌∷◌, refl, sym, ap, ◌∙◌, arith}
use Rattle.std.specs.Cmp.{IsTotalOrder}
use Rattle.std.specs.List.{list_any, slice_get, AllByRecursion}
use Rattle.std.specs.List.Sorted.{IsStrictlySortedBy}
use Rattle.std.specs.Ordering.{is_eq, is_lt, nat_cmp, ordering_reverse, ordering_then, MatchOrdering}
use Rattle.std.specs.declared.cmp.Ordering.{Ordering}
use Rattle.std.specs.declared.cmp.Ordering.TheVariants.{Less, Equal, Greater}
use Rattle.std.proofs.lemmas.Cmp.{tied_back, tied_itself, then_total, on_total, nat_cmp_total, ranked}
use Rattle.dl_pages.specs.Entries.{entry_order}
use Rattle.dl_pages.specs.Points.{IsPartitioned, IsPartitionPoint}
use Rattle.dl_pages.specs.Sets.{has}
use Rattle.dl_pages.proofs.Sets.{less-is, equal-is, and-true, or-false, less-all, none-above, any-at, turned}

-- neither less nor equal
over-is : (s : Ordering) → is_lt s ≡ false → is_eq s ≡ false → s ≡ Greater
over-is Less a b = cc a
over-is Equal a b = cc b
over-is Greater a b = refl

under-by : (m n : ℕ) (r : Ordering) → MatchOrdering r (m < n) (m ≡ n) (n < m) → m < n → r ≡ Less
under-by m n Less is less = refl
under-by m n Equal is less = absurd (omega arith)
under-by m n Greater is less = absurd (omega arith)

-- what stands first in an order by two
first-less : (r s : Ordering) → r ≡ Less → ordering_then r s ≡ Less
first-less r s e = rw e refl

first-greater : (r s : Ordering) → r ≡ Greater → is_eq (ordering_then r s) ≡ false
first-greater r s e = rw e refl

module _ {K : Type 0} (R : K → K → Ordering) (o : IsTotalOrder R) where
  total : IsTotalOrder (entry_order R)
  total = then_total (on_total (λ (e : K × ℕ). e.0) o) (on_total (λ (e : K × ℕ). e.1) nat_cmp_total)

  not-after : (x z : K × ℕ) (k : K) (r : Ordering) → R x.0 z.0 ≡ r → ordering_then r (nat_cmp x.1 z.1) ≡ Less → R z.0 k ≡ Less → R x.0 k ≡ Less
  not-after x z k Less is e less = o.trans x.0 z.0 k is less
  not-after x z k Equal is e less = o.congr x.0 z.0 k is ∙ less
  not-after x z k Greater is e less = cc e

  none-under : (k : K) (x : K × ℕ) (xs : List (K × ℕ)) → is_lt (R x.0 k) ≡ false → AllByRecursion (λ z. entry_order R x z ≡ Less) xs → list_any (λ z. is_lt (R z.0 k)) xs ≡ false
  none-under k x [] e all = refl
  none-under k x (z ∷ zs) e all = rw (not-lt (R z.0 k) refl) (none-under k x zs e all.1)
    where
      not-lt : (r : Ordering) → R z.0 k ≡ r → is_lt r ≡ false
      not-lt Less is = absurd (clash (ap is_lt (not-after x z k (R x.0 z.0) refl all.0 is)))
        where
          clash : is_lt (R x.0 k) ≡ true → ⊥
          clash h = cc (sym h ∙ e)
      not-lt Equal is = refl
      not-lt Greater is = refl

  pub falls_by_key : (k : K) (xs : List (K × ℕ)) → IsStrictlySortedBy (entry_order R) xs → IsPartitioned (λ e. is_lt (R e.0 k)) xs
  unfolding IsStrictlySortedBy
  falls_by_key k [] s = tt
  falls_by_key k (x ∷ xs) s = ((λ e. none-under k x xs e s.0), falls_by_key k xs s.1)

  lesser-none : (k : K) (xs : List (K × ℕ)) (i : ℕ) (e : K × ℕ) (m : ℕ) → IsStrictlySortedBy (entry_order R) xs → IsPartitionPoint (λ x. is_lt (R x.0 k)) xs i → slice_get xs i ≡ Some e → R k e.0 ≡ Equal → m < e.1 → has (entry_order R) xs (k, m) ≡ false
  unfolding IsStrictlySortedBy
  lesser-none k [] i e m s p is same less = cc is
  lesser-none k (x ∷ xs) zero e m s p is same less =
      let here : x ≡ e = one x e is in
      let first : entry_order R (k, m) x ≡ Less = ap (λ y. entry_order R (k, m) y) here ∙ ap (λ r. ordering_then r (nat_cmp m e.1)) same ∙ under-by m e.1 (nat_cmp m e.1) (ranked m e.1 (nat_cmp m e.1) refl) less in
      none-above (entry_order R) total (k, m) (x ∷ xs) (first, less-all (entry_order R) total (k, m) x xs first s.0)
    where
      one : (a b : K × ℕ) → Some a ≡ Some b → a ≡ b
      one a b h = cc h
  lesser-none k (x ∷ xs) (suc i) e m s p is same less =
      let front = and-true (is_lt (R x.0 k)) _ p.front in
      rw (first-greater (R k x.0) (nat_cmp m x.1) (turned R o x.0 k (less-is _ front.0)))
      (lesser-none k xs i e m s.1 (record { within = omega (arith, p.within); front = front.1; rest = p.rest }) is same less)

  pub least_found : (k : K) (xs : List (K × ℕ)) (i : ℕ) (e : K × ℕ) → IsStrictlySortedBy (entry_order R) xs → IsPartitionPoint (λ x. is_lt (R x.0 k)) xs i → slice_get xs i ≡ Some e → is_eq (R e.0 k) ≡ true
      → (has (entry_order R) xs (k, e.1) ≡ true) × ((m : ℕ) → m < e.1 → has (entry_order R) xs (k, m) ≡ false)
  least_found k xs i e s p is same =
      let back : R k e.0 ≡ Equal = tied_back o e.0 k (equal-is _ same) in
      let here : is_eq (entry_order R (k, e.1) e) ≡ true = ap (λ r. is_eq (ordering_then r (nat_cmp e.1 e.1))) back ∙ ap is_eq (tied_itself nat_cmp_total e.1) in
      (any-at (entry_order R) total (k, e.1) xs i e is here, λ m less. lesser-none k xs i e m s p is back less)

  pub least_missed : (k : K) (xs : List (K × ℕ)) (i : ℕ) → IsStrictlySortedBy (entry_order R) xs → IsPartitionPoint (λ x. is_lt (R x.0 k)) xs i → ((e : K × ℕ) → slice_get xs i ≡ Some e → is_eq (R e.0 k) ≡ false) → (n : ℕ) → has (entry_order R) xs (k, n) ≡ false
  unfolding IsStrictlySortedBy
  least_missed k [] i s p other n = refl
  least_missed k (x ∷ xs) zero s p other n =
      let over : R x.0 k ≡ Greater = over-is (R x.0 k) (or-false _ _ p.rest).0 (other x refl) in
      let first : entry_order R (k, n) x ≡ Less = first-less (R k x.0) (nat_cmp n x.1) (o.antisymm k x.0 ∙ ap ordering_reverse over) in
      none-above (entry_order R) total (k, n) (x ∷ xs) (first, less-all (entry_order R) total (k, n) x xs first s.0)
  least_missed k (x ∷ xs) (suc i) s p other n =
      let front = and-true (is_lt (R x.0 k)) _ p.front in
      rw (first-greater (R k x.0) (nat_cmp n x.1) (turned R o x.0 k (less-is _ front.0)))
      (least_missed k xs i s.1 (record { within = omega (arith, p.within); front = front.1; rest = p.rest }) other n)
