-- Lists in order, where one comes or goes at its point.
use Rattle.std.proofs.Common.{◌≡◌, ℕ, zero, suc, ◌&&◌, ◌||◌, Bool, true, false, not, Some, List, [], ◌∷◌, refl, sym, ap, ◌∙◌, arith, subst}
use Rattle.std.specs.Cmp.{IsTotalOrder}
use Rattle.std.specs.List.{list_any, slice_get, insert, remove, AllByRecursion}
use Rattle.std.specs.List.Sorted.{IsStrictlySortedBy}
use Rattle.std.specs.Ordering.{is_eq, is_lt, ordering_reverse}
use Rattle.std.specs.declared.cmp.Ordering.{Ordering}
use Rattle.std.specs.declared.cmp.Ordering.TheVariants.{Less, Equal, Greater}
use Rattle.std.proofs.lemmas.Cmp.{tied_back}
use Rattle.dl_pages.specs.Points.{IsPartitioned, IsPartitionPoint}
use Rattle.dl_pages.specs.Sets.{has, WithMember, WithoutMember, is_at}

-- what tests of an answer say
pub less-is : (r : Ordering) → is_lt r ≡ true → r ≡ Less
less-is Less e = refl
less-is Equal e = cc e
less-is Greater e = cc e

pub equal-is : (r : Ordering) → is_eq r ≡ true → r ≡ Equal
equal-is Less e = cc e
equal-is Equal e = refl
equal-is Greater e = cc e

-- neither less, seen from the other side, nor equal
below-is : (r s : Ordering) → r ≡ ordering_reverse s → is_lt s ≡ false → is_eq r ≡ false → r ≡ Less
below-is r Less turned not_less not_equal = cc not_less
below-is r Equal turned not_less not_equal = absurd (clash (ap is_eq turned) not_equal)
  where
    clash : is_eq r ≡ true → is_eq r ≡ false → ⊥
    clash a b = cc (sym a ∙ b)
below-is r Greater turned not_less not_equal = turned

pub or-false : (a b : Bool) → (a || b) ≡ false → (a ≡ false) × (b ≡ false)
or-false true b e = cc e
or-false false b e = (refl, e)

pub and-true : (a b : Bool) → (a && b) ≡ true → (a ≡ true) × (b ≡ true)
and-true true b e = (refl, e)
and-true false b e = cc e

module _ {T : Type 0} where
  any-insert : (test : T → Bool) (xs : List T) (i : ℕ) (x : T) → list_any test (insert xs i x) ≡ (test x || list_any test xs)
  any-insert test [] zero x = refl
  any-insert test [] (suc i) x = refl
  any-insert test (y ∷ ys) zero x = refl
  any-insert test (y ∷ ys) (suc i) x = ap (λ b. test y || b) (any-insert test ys i x) ∙ swap (test y) (test x) (list_any test ys)
    where
      swap : (a b c : Bool) → (a || (b || c)) ≡ (b || (a || c))
      swap true true c = refl
      swap true false c = refl
      swap false b c = refl

  all-insert : (P : T → Type 0) (xs : List T) (i : ℕ) (x : T) → P x → AllByRecursion P xs → AllByRecursion P (insert xs i x)
  all-insert P [] zero x p all = (p, tt)
  all-insert P [] (suc i) x p all = (p, tt)
  all-insert P (y ∷ ys) zero x p all = (p, all)
  all-insert P (y ∷ ys) (suc i) x p all = (all.0, all-insert P ys i x p all.1)

  all-remove : (P : T → Type 0) (xs : List T) (i : ℕ) → AllByRecursion P xs → AllByRecursion P (remove xs i)
  all-remove P [] zero all = tt
  all-remove P [] (suc i) all = tt
  all-remove P (y ∷ ys) zero all = all.1
  all-remove P (y ∷ ys) (suc i) all = (all.0, all-remove P ys i all.1)

  all-at : (P : T → Type 0) (xs : List T) (i : ℕ) (y : T) → slice_get xs i ≡ Some y → AllByRecursion P xs → P y
  all-at P [] i y is all = cc is
  all-at P (x ∷ xs) zero y is all = subst P (one x y is) all.0
    where
      one : (a b : T) → Some a ≡ Some b → a ≡ b
      one a b e = cc e
  all-at P (x ∷ xs) (suc i) y is all = all-at P xs i y is all.1

module _ {T : Type 0} (R : T → T → Ordering) (o : IsTotalOrder R) where
  pub turned : (x y : T) → R x y ≡ Less → R y x ≡ Greater
  turned x y e = o.antisymm y x ∙ ap ordering_reverse e

  pub less-all : (x y : T) (ys : List T) → R x y ≡ Less → AllByRecursion (λ z. R y z ≡ Less) ys → AllByRecursion (λ z. R x z ≡ Less) ys
  less-all x y [] e all = tt
  less-all x y (z ∷ zs) e all = (o.trans x y z e all.0, less-all x y zs e all.1)

  same-all : (x y : T) (ys : List T) → R x y ≡ Equal → AllByRecursion (λ z. R y z ≡ Less) ys → AllByRecursion (λ z. R x z ≡ Less) ys
  same-all x y [] e all = tt
  same-all x y (z ∷ zs) e all = (o.congr x y z e ∙ all.0, same-all x y zs e all.1)

  pub none-above : (q : T) (xs : List T) → AllByRecursion (λ z. R q z ≡ Less) xs → has R xs q ≡ false
  none-above q [] all = refl
  none-above q (x ∷ xs) all = rw (ap is_eq all.0) (none-above q xs all.1)

  -- where one is not below another, none behind it is
  none-under : (item x : T) (xs : List T) → is_lt (R x item) ≡ false → AllByRecursion (λ z. R x z ≡ Less) xs → list_any (λ z. is_lt (R z item)) xs ≡ false
  none-under item x [] e all = refl
  none-under item x (z ∷ zs) e all = rw (not-lt (R z item) refl) (none-under item x zs e all.1)
    where
      not-lt : (r : Ordering) → R z item ≡ r → is_lt r ≡ false
      not-lt Less is = absurd (clash (ap is_lt (o.trans x z item all.0 is)))
        where
          clash : is_lt (R x item) ≡ true → ⊥
          clash h = cc (sym h ∙ e)
      not-lt Equal is = refl
      not-lt Greater is = refl

  pub falls : (item : T) (xs : List T) → IsStrictlySortedBy R xs → IsPartitioned (λ x. is_lt (R x item)) xs
  unfolding IsStrictlySortedBy
  falls item [] s = tt
  falls item (x ∷ xs) s = ((λ e. none-under item x xs e s.0), falls item xs s.1)

  insert-sorted : (item : T) (xs : List T) (i : ℕ) → IsStrictlySortedBy R xs → IsPartitionPoint (λ x. is_lt (R x item)) xs i → ((y : T) → slice_get xs i ≡ Some y → is_eq (R item y) ≡ false) → IsStrictlySortedBy R (insert xs i item)
  unfolding IsStrictlySortedBy
  insert-sorted item [] zero s p other = (tt, tt)
  insert-sorted item [] (suc i) s p other = (tt, tt)
  insert-sorted item (x ∷ xs) zero s p other =
      let less : R item x ≡ Less = below-is (R item x) (R x item) (o.antisymm item x) (or-false _ _ p.rest).0 (other x refl) in
      ((less, less-all item x xs less s.0), s)
  insert-sorted item (x ∷ xs) (suc i) s p other =
      (all-insert (λ z. R x z ≡ Less) xs i item (less-is _ (and-true _ _ p.front).0) s.0, insert-sorted item xs i s.1 (record { within = omega (arith, p.within); front = (and-true _ _ p.front).1; rest = p.rest }) other)

  remove-sorted : (xs : List T) (i : ℕ) → IsStrictlySortedBy R xs → IsStrictlySortedBy R (remove xs i)
  unfolding IsStrictlySortedBy
  remove-sorted [] zero s = tt
  remove-sorted [] (suc i) s = tt
  remove-sorted (x ∷ xs) zero s = s.1
  remove-sorted (x ∷ xs) (suc i) s = (all-remove (λ z. R x z ≡ Less) xs i s.0, remove-sorted xs i s.1)

  pub any-at : (q : T) (xs : List T) (i : ℕ) (y : T) → slice_get xs i ≡ Some y → is_eq (R q y) ≡ true → has R xs q ≡ true
  any-at q [] i y is e = cc is
  any-at q (x ∷ xs) zero y is e = rw (ap (λ z. is_eq (R q z)) (one x y is) ∙ e) refl
    where
      one : (a b : T) → Some a ≡ Some b → a ≡ b
      one a b h = cc h
  any-at q (x ∷ xs) (suc i) y is e = rw (any-at q xs i y is e) (or-true (is_eq (R q x)))
    where
      or-true : (b : Bool) → (b || true) ≡ true
      or-true true = refl
      or-true false = refl

  -- one more at its point
  pub more : (item : T) (xs : List T) (i : ℕ) → IsStrictlySortedBy R xs → IsPartitionPoint (λ x. is_lt (R x item)) xs i → ((y : T) → slice_get xs i ≡ Some y → is_eq (R item y) ≡ false) → WithMember R xs (insert xs i item) item
  more item xs i s p other = record { sorted = insert-sorted item xs i s p other; each = λ q. any-insert (λ x. is_eq (R q x)) xs i item }

  -- nothing to do where it is there
  pub there : (item : T) (xs : List T) (i : ℕ) (y : T) → IsStrictlySortedBy R xs → slice_get xs i ≡ Some y → is_eq (R item y) ≡ true → WithMember R xs xs item
  there item xs i y s is e = record { sorted = s; each = λ q. by q (is_eq (R q item)) refl }
    where
      by : (q : T) (b : Bool) → is_eq (R q item) ≡ b → has R xs q ≡ (b || has R xs q)
      by q false h = refl
      by q true h = any-at q xs i y is (ap is_eq (o.congr q item y (equal-is _ h)) ∙ e)

  less-each : (item q : T) (xs : List T) (i : ℕ) (y : T) (b : Bool) → is_eq (R q item) ≡ b → IsStrictlySortedBy R xs → slice_get xs i ≡ Some y → is_eq (R item y) ≡ true → has R (remove xs i) q ≡ (not b && has R xs q)
  unfolding IsStrictlySortedBy
  less-each item q [] i y b h s is e = cc is
  less-each item q (x ∷ xs) zero y true h s is e =
      let qx : R q x ≡ Equal = o.congr q item x (equal-is _ h) ∙ ap (λ z. R item z) (one x y is) ∙ equal-is _ e in
      none-above q xs (same-all q x xs qx s.0)
    where
      one : (a b : T) → Some a ≡ Some b → a ≡ b
      one a b h = cc h
  less-each item q (x ∷ xs) zero y false h s is e =
      let other : is_eq (R q x) ≡ false = apart (R q x) refl in
      rw other refl
    where
      one : (a b : T) → Some a ≡ Some b → a ≡ b
      one a b h = cc h

      apart : (r : Ordering) → R q x ≡ r → is_eq r ≡ false
      apart Less m = refl
      apart Greater m = refl
      apart Equal m = absurd (clash (ap is_eq (o.congr q x item m ∙ tied_back o item x (ap (λ z. R item z) (one x y is) ∙ equal-is _ e))))
        where
          clash : is_eq (R q item) ≡ true → ⊥
          clash k = cc (sym k ∙ h)
  less-each item q (x ∷ xs) (suc i) y false h s is e = ap (λ b. is_eq (R q x) || b) (less-each item q xs i y false h s.1 is e)
  less-each item q (x ∷ xs) (suc i) y true h s is e =
      let xy : R x y ≡ Less = all-at (λ z. R x z ≡ Less) xs i y is s.0 in
      let qy : R q y ≡ Equal = o.congr q item y (equal-is _ h) ∙ equal-is _ e in
      let qx : R q x ≡ Greater = o.congr q y x qy ∙ turned x y xy in
      rw (ap is_eq qx) (less-each item q xs i y true h s.1 is e)

  -- one less at its place
  pub less : (item : T) (xs : List T) (i : ℕ) (y : T) → IsStrictlySortedBy R xs → slice_get xs i ≡ Some y → is_eq (R item y) ≡ true → WithoutMember R xs (remove xs i) item
  less item xs i y s is e = record { sorted = remove-sorted xs i s; each = λ q. less-each item q xs i y (is_eq (R q item)) refl s is e }

  pub missing : (item : T) (xs : List T) (i : ℕ) → IsStrictlySortedBy R xs → IsPartitionPoint (λ x. is_lt (R x item)) xs i → ((y : T) → slice_get xs i ≡ Some y → is_eq (R item y) ≡ false) → has R xs item ≡ false
  unfolding IsStrictlySortedBy
  missing item [] i s p other = refl
  missing item (x ∷ xs) zero s p other =
      let under : R item x ≡ Less = below-is (R item x) (R x item) (o.antisymm item x) (or-false _ _ p.rest).0 (other x refl) in
      none-above item (x ∷ xs) (under, less-all item x xs under s.0)
  missing item (x ∷ xs) (suc i) s p other =
      rw (ap is_eq (turned x item (less-is _ (and-true _ _ p.front).0))) (missing item xs i s.1 (record { within = omega (arith, p.within); front = (and-true _ _ p.front).1; rest = p.rest }) other)

  has-same : (q item : T) (xs : List T) → R q item ≡ Equal → has R xs q ≡ has R xs item
  has-same q item [] e = refl
  has-same q item (x ∷ xs) e = rw (o.congr q item x e, has-same q item xs e) refl

  -- nothing to do where it is not there
  pub gone : (item : T) (xs : List T) (i : ℕ) → IsStrictlySortedBy R xs → IsPartitionPoint (λ x. is_lt (R x item)) xs i → ((y : T) → slice_get xs i ≡ Some y → is_eq (R item y) ≡ false) → WithoutMember R xs xs item
  gone item xs i s p other = record { sorted = s; each = λ q. by q (is_eq (R q item)) refl }
    where
      by : (q : T) (b : Bool) → is_eq (R q item) ≡ b → has R xs q ≡ (not b && has R xs q)
      by q false h = refl
      by q true h = has-same q item xs (equal-is _ h) ∙ missing item xs i s p other

  found : (item : T) (xs : List T) (i : ℕ) → is_at R item (slice_get xs i) ≡ true → (y : T) × (slice_get xs i ≡ Some y) × (is_eq (R item y) ≡ true)
  found item [] i e = cc e
  found item (x ∷ xs) zero e = (x, refl, e)
  found item (x ∷ xs) (suc i) e = found item xs i e

  other : (item : T) (xs : List T) (i : ℕ) → is_at R item (slice_get xs i) ≡ false → (y : T) → slice_get xs i ≡ Some y → is_eq (R item y) ≡ false
  other item xs i e y is = ap (is_at R item) (sym is) ∙ e

  pub is_there : (item : T) (xs made : List T) (i : ℕ) → is_at R item (slice_get xs i) ≡ true → IsStrictlySortedBy R xs → made ≡ xs → WithMember R xs made item
  is_there item xs made i e s is = let f = found item xs i e in subst (λ l. WithMember R xs l item) (sym is) (there item xs i f.0 s f.1 f.2)

  pub is_more : (item : T) (xs made : List T) (i : ℕ) → is_at R item (slice_get xs i) ≡ false → IsPartitionPoint (λ x. is_lt (R x item)) xs i → IsStrictlySortedBy R xs → made ≡ insert xs i item → WithMember R xs made item
  is_more item xs made i e p s is = subst (λ l. WithMember R xs l item) (sym is) (more item xs i s p (other item xs i e))

  pub is_less : (item : T) (xs made : List T) (i : ℕ) → is_at R item (slice_get xs i) ≡ true → IsStrictlySortedBy R xs → made ≡ remove xs i → WithoutMember R xs made item
  is_less item xs made i e s is = let f = found item xs i e in subst (λ l. WithoutMember R xs l item) (sym is) (less item xs i f.0 s f.1 f.2)

  pub is_gone : (item : T) (xs made : List T) (i : ℕ) → is_at R item (slice_get xs i) ≡ false → IsPartitionPoint (λ x. is_lt (R x item)) xs i → IsStrictlySortedBy R xs → made ≡ xs → WithoutMember R xs made item
  is_gone item xs made i e p s is = subst (λ l. WithoutMember R xs l item) (sym is) (gone item xs i s p (other item xs i e))
