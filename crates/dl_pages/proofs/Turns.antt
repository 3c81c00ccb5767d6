-- Points of a list in three parts: those before the one to go into, that one, and those behind it; and which one that is.
use Rattle.std.proofs.Common.{◌≡◌, ℕ, zero, suc, ◌+◌, ◌<◌, ◌≤◌, Bool, true, false, ◌&&◌, ◌||◌, List, [], ◌∷◌, ◌++◌, length, take, drop, get_or, MatchOption, Some, None, refl, sym, ap, ◌∙◌, subst, arith, length-append, add-one}
use Rattle.std.specs.List.{list_all, list_any, slice_get}
use Rattle.std.proofs.lemmas.List.{take-append-le, drop-append-le}
use Rattle.std.proofs.lemmas.List.Folds.{list_any-append, list_all-append}
use Rattle.dl_pages.specs.Listing.{flatten, AreFilled, AreBelow, FirstTests}
use Rattle.dl_pages.specs.Points.{IsPartitioned, IsPartitionPoint}
use Rattle.dl_pages.proofs.Parts.{flatten_split, split_at, below_split, get_split}
use Rattle.dl_pages.proofs.Places.{get_right, none_past, some_within}

module _ {T : Type 0} where
  pub some_parts : (ps : List (List T × ℕ)) → 0 < length (flatten ps) → 0 < length ps
  some_parts [] some = some
  some_parts (p ∷ ps) some = omega arith

  pub below_at : (h n : ℕ) (ps behind : List (List T × ℕ)) (p : List T × ℕ) → drop n ps ≡ p ∷ behind → AreBelow h ps → p.1 < h
  below_at h n ps behind p is low = below_split h ps (take n ps) behind p (split_at n ps behind p is) low

  filled-drop : (n : ℕ) (ps : List (List T × ℕ)) → AreFilled ps → AreFilled (drop n ps)
  filled-drop zero ps filled = filled
  filled-drop (suc n) [] filled = tt
  filled-drop (suc n) (p ∷ ps) filled = filled-drop n ps filled.1

  -- a part and those behind it have items
  pub filled_at : (n : ℕ) (ps behind : List (List T × ℕ)) (p : List T × ℕ) → drop n ps ≡ p ∷ behind → AreFilled ps → (0 < length p.0) × AreFilled behind
  filled_at n ps behind p is filled = subst AreFilled is (filled-drop n ps filled)

  drop-next : (n : ℕ) (ps behind : List (List T × ℕ)) (p : List T × ℕ) → drop n ps ≡ p ∷ behind → drop (suc n) ps ≡ behind
  drop-next zero [] behind p is = cc is
  drop-next zero (q ∷ ps) behind p is = cc is
  drop-next (suc n) [] behind p is = cc is
  drop-next (suc n) (q ∷ ps) behind p is = drop-next n ps behind p is

  drop_next : (n : ℕ) (ps behind : List (List T × ℕ)) (p : List T × ℕ) → drop n ps ≡ p ∷ behind → drop (n + 1) ps ≡ behind
  drop_next n ps behind p is = rw (add-one n) (drop-next n ps behind p is)

  -- items in three: those of the parts before one, its own, and those of the parts behind it
  pub in_three : (n : ℕ) (ps behind : List (List T × ℕ)) (p : List T × ℕ) → drop n ps ≡ p ∷ behind → flatten ps ≡ flatten (take n ps) ++ (p.0 ++ flatten behind)
  in_three n ps behind p is = flatten_split ps (take n ps) behind p (split_at n ps behind p is)

  pub len_three : (n k : ℕ) (ps behind : List (List T × ℕ)) (p : List T × ℕ) → drop n ps ≡ p ∷ behind → k ≤ length p.0 → length (flatten (take n ps)) + k ≤ length (flatten ps)
  len_three n k ps behind p is within = omega (arith, within, ap length (in_three n ps behind p is), length-append (flatten (take n ps)) (p.0 ++ flatten behind), length-append p.0 (flatten behind))

  -- the item at a place in a part, among all
  pub item_within : (n k i : ℕ) (ps behind : List (List T × ℕ)) (p : List T × ℕ) (x : T) → drop n ps ≡ p ∷ behind → length (flatten (take n ps)) + k ≡ i → slice_get p.0 k ≡ Some x → slice_get (flatten ps) i ≡ Some x
  item_within n k i ps behind p x is at has = get_split ps (take n ps) behind p i k (split_at n ps behind p is) at (some_within p.0 k x has) ∙ has

  -- the item past the end of a part is the first of those behind it
  pub item_past : (n k i : ℕ) (ps behind : List (List T × ℕ)) (p : List T × ℕ) → drop n ps ≡ p ∷ behind → length (flatten (take n ps)) + k ≡ i → k ≤ length p.0 → slice_get p.0 k ≡ None → slice_get (flatten ps) i ≡ slice_get (flatten behind) 0
  item_past n k i ps behind p is at within none = ap (λ l. slice_get l i) (in_three n ps behind p is) ∙ get_right (flatten (take n ps)) (p.0 ++ flatten behind) k i at ∙ get_right p.0 (flatten behind) 0 k (omega (arith, within, none_past p.0 k none))

  -- the first item of parts is that of the first of them
  pub first_item : (ps : List (List T × ℕ)) (p : List T × ℕ) → AreFilled ps → Some p ≡ slice_get ps 0 → slice_get (flatten ps) 0 ≡ slice_get p.0 0
  first_item [] p filled is = cc is
  first_item (q ∷ ps) p filled is = left q.0 (flatten ps) filled.0 ∙ ap (λ l. slice_get l 0) (own is)
    where
      left : (xs ys : List T) → 0 < length xs → slice_get (xs ++ ys) 0 ≡ slice_get xs 0
      left [] ys some = absurd (omega arith)
      left (x ∷ xs) ys some = refl

      own : Some p ≡ Some q → q.0 ≡ p.0
      own e = cc e

module _ {T : Type 0} (test : T → Bool) where
  or-false : (a b : Bool) → (a || b) ≡ false → (a ≡ false) × (b ≡ false)
  or-false true b e = cc e
  or-false false b e = (refl, e)

  pub falls_front : (xs ys : List T) → IsPartitioned test (xs ++ ys) → IsPartitioned test xs
  falls_front [] ys f = tt
  falls_front (x ∷ xs) ys f = ((λ e. (or-false _ _ (sym (list_any-append test xs ys) ∙ f.0 e)).0), falls_front xs ys f.1)

  pub falls_rest : (xs ys : List T) → IsPartitioned test (xs ++ ys) → IsPartitioned test ys
  falls_rest [] ys f = f
  falls_rest (x ∷ xs) ys f = falls_rest xs ys f.1

  -- where the first of some fails, all do
  all-fail : (ys : List T) → IsPartitioned test ys → FirstTests test false ys → list_any test ys ≡ false
  all-fail [] f e = refl
  all-fail (y ∷ ys) f e = rw (e, f.0 e) refl

  -- where the first of some passes, all before it do
  front-passes : (xs : List T) (y : T) (ys : List T) → IsPartitioned test (xs ++ y ∷ ys) → test y ≡ true → list_all test xs ≡ true
  front-passes [] y ys f e = refl
  front-passes (x ∷ xs) y ys f e = rw (by (test x) f.0) (front-passes xs y ys f.1 e)
    where
      clash : test y ≡ false → ⊥
      clash h = cc (sym e ∙ h)

      by : (b : Bool) → (b ≡ false → list_any test (xs ++ y ∷ ys) ≡ false) → b ≡ true
      by true f = refl
      by false f = absurd (clash (or-false _ _ (or-false _ _ (sym (list_any-append test xs (y ∷ ys)) ∙ f refl)).1).0)

  pub before_passes : (xs ys : List T) → IsPartitioned test (xs ++ ys) → 0 < length ys → FirstTests test true ys → list_all test xs ≡ true
  before_passes xs [] f some e = absurd (omega arith)
  before_passes xs (y ∷ ys) f some e = front-passes xs y ys f e

  take-past : (xs ys : List T) (k i : ℕ) → length xs + k ≡ i → take i (xs ++ ys) ≡ xs ++ take k ys
  take-past [] ys k i is = ap (λ j. take j ys) (omega arith)
  take-past (x ∷ xs) ys k zero is = absurd (omega arith)
  take-past (x ∷ xs) ys k (suc i) is = ap (λ l. x ∷ l) (take-past xs ys k i (omega arith))

  drop-past : (xs ys : List T) (k i : ℕ) → length xs + k ≡ i → drop i (xs ++ ys) ≡ drop k ys
  drop-past [] ys k i is = ap (λ j. drop j ys) (omega arith)
  drop-past (x ∷ xs) ys k zero is = absurd (omega arith)
  drop-past (x ∷ xs) ys k (suc i) is = drop-past xs ys k i (omega arith)

  pub point_past : (xs ys : List T) (k : ℕ) → list_all test xs ≡ true → IsPartitionPoint test ys k → IsPartitionPoint test (xs ++ ys) (length xs + k)
  point_past xs ys k all p = record {
    within = omega (arith, p.within, length-append xs ys);
    front = ap (list_all test) (take-past xs ys k (length xs + k) refl) ∙ list_all-append test xs (take k ys) ∙ both (list_all test xs) (list_all test (take k ys)) all p.front;
    rest = ap (list_any test) (drop-past xs ys k (length xs + k) refl) ∙ p.rest;
  }
    where
      both : (a b : Bool) → a ≡ true → b ≡ true → (a && b) ≡ true
      both a b ea eb = rw (ea, eb) refl

  pub point_front : (ys zs : List T) (k : ℕ) → list_any test zs ≡ false → IsPartitionPoint test ys k → IsPartitionPoint test (ys ++ zs) k
  point_front ys zs k none p = record {
    within = omega (arith, p.within, length-append ys zs);
    front = ap (list_all test) (take-append-le k ys zs p.within) ∙ p.front;
    rest = ap (list_any test) (drop-append-le k ys zs p.within) ∙ list_any-append test (drop k ys) zs ∙ both (list_any test (drop k ys)) (list_any test zs) p.rest none;
  }
    where
      both : (a b : Bool) → a ≡ false → b ≡ false → (a || b) ≡ false
      both a b ea eb = rw (ea, eb) refl

  -- the point of all is that of the part in the middle, where what is before passes and what is behind fails
  pub point_within : (xs ys zs : List T) (k : ℕ) → IsPartitioned test (xs ++ (ys ++ zs)) → list_all test xs ≡ true → FirstTests test false zs → (IsPartitioned test ys → IsPartitionPoint test ys k) → IsPartitionPoint test (xs ++ (ys ++ zs)) (length xs + k)
  point_within xs ys zs k f all fails p =
      let g = falls_rest xs (ys ++ zs) f in
      point_past xs (ys ++ zs) k all (point_front ys zs k (all-fail zs (falls_rest ys zs g) fails) (p (falls_front ys zs g)))

  begins-with : (v r : Bool) (xs rest : List T) → 0 < length xs → MatchOption (slice_get xs 0) (r ≡ true) (λ x. r ≡ test x) → r ≡ v → FirstTests test v (xs ++ rest)
  begins-with v r [] rest some is e = absurd (omega arith)
  begins-with v r (x ∷ xs) rest some is e = sym is ∙ e

  begins-from : (v r : Bool) (n : ℕ) (ps : List (List T × ℕ)) (p : List T × ℕ) → p ≡ get_or ps n p → n < length ps → AreFilled ps → MatchOption (slice_get p.0 0) (r ≡ true) (λ x. r ≡ test x) → r ≡ v → FirstTests test v (flatten (drop n ps))
  begins-from v r n [] p at within filled is e = absurd (omega arith)
  begins-from v r zero (q ∷ ps) p at within filled is e = begins-with v r q.0 (flatten ps) filled.0 (subst (λ (o : List T × ℕ). MatchOption (slice_get o.0 0) (r ≡ true) (λ x. r ≡ test x)) at is) e
  begins-from v r (suc n) (q ∷ ps) p at within filled is e = begins-from v r n ps p at (omega arith) filled.1 is e

  -- what a test says of the first item of a part, it says of those from there on
  pub begins_at : (v r : Bool) (n m : ℕ) (ps : List (List T × ℕ)) (p : List T × ℕ) → p ≡ get_or ps n p → n < length ps → AreFilled ps → MatchOption (slice_get p.0 0) (r ≡ true) (λ x. r ≡ test x) → r ≡ v → n ≡ m → FirstTests test v (flatten (drop m ps))
  begins_at v r n m ps p at within filled is e same = rw (sym same) (begins-from v r n ps p at within filled is e)

  ahead : (n : ℕ) (ps behind : List (List T × ℕ)) (p : List T × ℕ) → drop n ps ≡ p ∷ behind → AreFilled ps → (0 < n → FirstTests test true (flatten (drop n ps))) → IsPartitioned test (flatten (take n ps) ++ (p.0 ++ flatten behind)) → list_all test (flatten (take n ps)) ≡ true
  ahead zero ps behind p is filled passing f = refl
  ahead (suc n) ps behind p is filled passing f = before_passes (flatten (take (suc n) ps)) (p.0 ++ flatten behind) f (omega (arith, (filled_at (suc n) ps behind p is filled).0, length-append p.0 (flatten behind))) (subst (λ l. FirstTests test true (flatten l)) is (passing (omega arith)))

  -- the point of parts is that of the part to go into
  pub point_at : (n k i : ℕ) (ps behind : List (List T × ℕ)) (p : List T × ℕ) → drop n ps ≡ p ∷ behind → AreFilled ps → (0 < n → FirstTests test true (flatten (drop n ps))) → FirstTests test false (flatten (drop (n + 1) ps)) → (IsPartitioned test p.0 → IsPartitionPoint test p.0 k) → length (flatten (take n ps)) + k ≡ i → IsPartitioned test (flatten ps) → IsPartitionPoint test (flatten ps) i
  point_at n k i ps behind p is filled passing failing own at f =
      subst (λ l. IsPartitionPoint test l i) (sym (in_three n ps behind p is)) (subst (IsPartitionPoint test (flatten (take n ps) ++ (p.0 ++ flatten behind))) at (point_within (flatten (take n ps)) p.0 (flatten behind) k parted (ahead n ps behind p is filled passing parted) (subst (λ l. FirstTests test false (flatten l)) (drop_next n ps behind p is) failing) own))
    where
      parted : IsPartitioned test (flatten (take n ps) ++ (p.0 ++ flatten behind))
      parted = subst (IsPartitioned test) (in_three n ps behind p is) f
