-- Laws of keyed maps.
use Rattle.std.proofs.Common.{◌≡◌, ◌⊎◌, inl, inr, ⊎_elim, ℕ, List, [], ◌∷◌, ◌++◌, Bool, true, false, cond, ◌||◌, Option, Some, None, refl, sym, ◌∙◌, ap, map}
use Rattle.std.specs.List.{list_any, find}
use Rattle.std.specs.Cmp.{tied_itself, Equal-is}
use Rattle.std.specs.Cmp.Lexicographic.{slice_cmp, nat_list_cmp_total}
use Rattle.std.specs.Ordering.{nat_cmp, is_eq}
use Rattle.std.specs.FinMap as maps
use Rattle.std.specs.FinMap.{get-insert, get-remove, same_map, slice_cmp-IsAntisymmetric, nat_cmp-IsAntisymmetric}
use Rattle.meaning_settling.specs.Keyed.{Keyed, is_at, put_at, over}

pub either : (b : Bool) → (b ≡ true) ⊎ (b ≡ false)
either true = inl refl
either false = inr refl

pub false_true : false ≡ true → ⊥
false_true e = cc

pub is_at-self : (k : List ℕ) → is_at k k ≡ true
is_at-self k = ap is_eq (tied_itself nat_list_cmp_total k)

pub is_at-same : (q k : List ℕ) → is_at q k ≡ true → q ≡ k
is_at-same q k e = slice_cmp-IsAntisymmetric nat_cmp-IsAntisymmetric q k ((Equal-is (slice_cmp nat_cmp q k)).0 e)

pub is_at-sym : (q k : List ℕ) → is_at q k ≡ false → is_at k q ≡ false
is_at-sym q k e = ⊎_elim
    (λ (t : is_at k q ≡ true). absurd (false_true (sym e ∙ ap (λ (x : List ℕ). is_at x k) (sym (is_at-same k q t)) ∙ is_at-self k)))
    (λ (f : is_at k q ≡ false). f) (either (is_at k q))

pub get-put : {X : Type 0} (m : Keyed X) (k q : List ℕ) (o : Option X) → maps.get (put_at m k o) q ≡ cond (is_at q k) o (maps.get m q)
get-put m k q (Some x) = get-insert nat_list_cmp_total m k x q
get-put m k q None = get-remove nat_list_cmp_total m k q

pub same_keyed : {X : Type 0} (m n : Keyed X) → ((q : List ℕ) → maps.get m q ≡ maps.get n q) → m ≡ n
same_keyed m n each = same_map nat_list_cmp_total (slice_cmp-IsAntisymmetric nat_cmp-IsAntisymmetric) m n each

-- a change of some entries that may be done again, and does nothing at other keys
module _ {X : Type 0} (change : List ℕ → Option X → Option X) (again : (k : List ℕ) (o : Option X) → change k (change k o) ≡ change k o) where
  get-over-any : (ks : List (List ℕ)) (m : Keyed X) (q : List ℕ) → maps.get (over ks change m) q ≡ cond (list_any (is_at q) ks) (change q (maps.get m q)) (maps.get m q)
  get-over-any [] m q = refl
  get-over-any (k ∷ ks) m q =
      let later : Keyed X = put_at m k (change k (maps.get m k)) in
      get-over-any ks later q
      ∙ ⊎_elim
      (λ (here : is_at q k ≡ true).
      let at : maps.get later q ≡ change q (maps.get m q) = get-put m k q (change k (maps.get m k)) ∙ ap (λ b. cond b (change k (maps.get m k)) (maps.get m q)) here ∙ ap (λ (x : List ℕ). change x (maps.get m x)) (sym (is_at-same q k here)) in
      ap (λ (o : Option X). cond (list_any (is_at q) ks) (change q o) o) at
      ∙ ap (λ (o : Option X). cond (list_any (is_at q) ks) o (change q (maps.get m q))) (again q (maps.get m q))
      ∙ alike (list_any (is_at q) ks) (change q (maps.get m q))
      ∙ sym (ap (λ b. cond (b || list_any (is_at q) ks) (change q (maps.get m q)) (maps.get m q)) here))
      (λ (there : is_at q k ≡ false).
      let at : maps.get later q ≡ maps.get m q = get-put m k q (change k (maps.get m k)) ∙ ap (λ b. cond b (change k (maps.get m k)) (maps.get m q)) there in
      ap (λ (o : Option X). cond (list_any (is_at q) ks) (change q o) o) at
      ∙ sym (ap (λ b. cond (b || list_any (is_at q) ks) (change q (maps.get m q)) (maps.get m q)) there))
      (either (is_at q k))
    where
      alike : (b : Bool) (o : Option X) → cond b o o ≡ o
      alike true o = refl
      alike false o = refl

  pub get-over : (ks : List (List ℕ)) (m : Keyed X) (q : List ℕ) → (list_any (is_at q) ks ≡ false → (o : Option X) → change q o ≡ o) → maps.get (over ks change m) q ≡ change q (maps.get m q)
  get-over ks m q other = get-over-any ks m q ∙ ⊎_elim
      (λ (e : list_any (is_at q) ks ≡ true). ap (λ b. cond b (change q (maps.get m q)) (maps.get m q)) e)
      (λ (e : list_any (is_at q) ks ≡ false). ap (λ b. cond b (change q (maps.get m q)) (maps.get m q)) e ∙ sym (other e (maps.get m q)))
      (either (list_any (is_at q) ks))

-- keys of lists

pub any-append : (p : List ℕ → Bool) (xs ys : List (List ℕ)) → list_any p (xs ++ ys) ≡ (list_any p xs || list_any p ys)
any-append p [] ys = refl
any-append p (x ∷ xs) ys = more (p x) (any-append p xs ys)
  where
    more : (b : Bool) → list_any p (xs ++ ys) ≡ (list_any p xs || list_any p ys) → (b || list_any p (xs ++ ys)) ≡ ((b || list_any p xs) || list_any p ys)
    more true e = refl
    more false e = e

pub none-or : (a b : Bool) → (a || b) ≡ false → (a ≡ false) × (b ≡ false)
none-or true b e = absurd cc
none-or false b e = (refl, e)

pub or-left : (a b : Bool) → a ≡ true → (a || b) ≡ true
or-left true b e = refl
or-left false b e = absurd (false_true e)

pub or-right : (a b : Bool) → b ≡ true → (a || b) ≡ true
or-right true b e = refl
or-right false b e = e

-- the first of some items under a key

module _ {A : Type 0} (key : A → List ℕ) where
  pub find-none : (xs : List A) (q : List ℕ) → list_any (is_at q) (map key xs) ≡ false → find (λ x. is_at q (key x)) xs ≡ None
  find-none [] q e = refl
  find-none (x ∷ xs) q e =
      let two = none-or (is_at q (key x)) (list_any (is_at q) (map key xs)) e in
      ap (λ b. cond b (Some x) (find (λ y. is_at q (key y)) xs)) two.0 ∙ find-none xs q two.1

  pub find-any : (other : A → List ℕ) (xs : List A) (q : List ℕ) (t : A) → find (λ x. is_at q (key x)) xs ≡ Some t → list_any (is_at (other t)) (map other xs) ≡ true
  find-any other [] q t e = absurd cc
  find-any other (x ∷ xs) q t e = ⊎_elim
      (λ (here : is_at q (key x) ≡ true).
      let is : x ≡ t = inside (sym (ap (λ b. cond b (Some x) (find (λ y. is_at q (key y)) xs)) here) ∙ e) in
      or-left (is_at (other t) (other x)) (list_any (is_at (other t)) (map other xs)) (ap (λ (y : A). is_at (other t) (other y)) is ∙ is_at-self (other t)))
      (λ (there : is_at q (key x) ≡ false).
      or-right (is_at (other t) (other x)) (list_any (is_at (other t)) (map other xs)) (find-any other xs q t (sym (ap (λ b. cond b (Some x) (find (λ y. is_at q (key y)) xs)) there) ∙ e)))
      (either (is_at q (key x)))
    where
      inside : Some x ≡ Some t → x ≡ t
      inside s = cc

  pub find-key : (xs : List A) (q : List ℕ) (t : A) → find (λ x. is_at q (key x)) xs ≡ Some t → q ≡ key t
  find-key [] q t e = absurd cc
  find-key (x ∷ xs) q t e = ⊎_elim
      (λ (here : is_at q (key x) ≡ true).
      let is : x ≡ t = inside (sym (ap (λ b. cond b (Some x) (find (λ y. is_at q (key y)) xs)) here) ∙ e) in
      is_at-same q (key x) here ∙ ap key is)
      (λ (there : is_at q (key x) ≡ false). find-key xs q t (sym (ap (λ b. cond b (Some x) (find (λ y. is_at q (key y)) xs)) there) ∙ e))
      (either (is_at q (key x)))
    where
      inside : Some x ≡ Some t → x ≡ t
      inside s = cc
