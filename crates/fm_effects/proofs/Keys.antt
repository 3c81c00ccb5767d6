-- Keys, and entries in their order.
use Rattle.std.proofs.Common.{◌≡◌, ℕ, Bool, true, false, cond, ◌||◌, List, [], ◌∷◌, map, Option, Some, is_some, refl, sym, ap, ◌∙◌}
use Rattle.std.proofs.lemmas.Bool.{and_from, false≢true}
use Rattle.std.specs.BTreeMap.{is_at as at_query}
use Rattle.std.specs.Cmp.{eq_by_cmp_equiv, tied_itself, Equal-is}
use Rattle.std.specs.Cmp.Lexicographic.{slice_cmp, nat_list_cmp_total}
use Rattle.std.specs.FinMap as maps
use Rattle.std.specs.FinMap.Entries.{below_all}
use Rattle.std.specs.List.{AllByRecursion, find, list_any}
use Rattle.std.specs.List.Sorted.{IsStrictlySortedBy}
use Rattle.std.specs.Map.{keys_of, lookup}
use Rattle.std.specs.Ordering.{is_eq, is_lt, nat_cmp}
use Rattle.std.specs.declared.cmp.Ordering.TheVariants.{Less}
use Rattle.meaning_settling.specs.Keyed.{is_at}

pub or-left : (a b : Bool) → a ≡ true → (a || b) ≡ true
or-left true b e = refl
or-left false b e = absurd (false≢true e)

pub or-right : (a b : Bool) → b ≡ true → (a || b) ≡ true
or-right true b e = refl
or-right false b e = e

pub only_same : maps.IsAntisymmetric (slice_cmp nat_cmp)
only_same = maps.slice_cmp-IsAntisymmetric maps.nat_cmp-IsAntisymmetric

pub same-key : (q k : List ℕ) → is_at q k ≡ true → q ≡ k
same-key q k e = only_same q k ((Equal-is (slice_cmp nat_cmp q k)).0 e)

pub is_at-self : (k : List ℕ) → is_at k k ≡ true
is_at-self k = ap is_eq (tied_itself nat_list_cmp_total k)

-- a query that compares the other way
pub turned : (k q : List ℕ) → is_eq (slice_cmp nat_cmp k q) ≡ is_at q k
turned k q = (eq_by_cmp_equiv nat_list_cmp_total).symm k q

-- what is said of one key holds of the same key
pub at-key : {X : Type 0} (f : List ℕ → X) (q k : List ℕ) (there other : X) → there ≡ f k → other ≡ f q → cond (is_at q k) there other ≡ f q
at-key {X} f q k there other here else = by (is_at q k) refl
  where
    by : (b : Bool) → is_at q k ≡ b → cond b there other ≡ f q
    by true e = here ∙ ap f (sym (same-key q k e))
    by false e = else

-- whether one of some items has a key
pub found-any : {A : Type 0} (key : A → List ℕ) (xs : List A) (q : List ℕ) → is_some (find (λ x. is_at q (key x)) xs) ≡ list_any (is_at q) (map key xs)
found-any key [] q = refl
found-any {A} key (x ∷ xs) q = by (is_at q (key x)) (found-any key xs q)
  where
    by : (b : Bool) → is_some (find (λ y. is_at q (key y)) xs) ≡ list_any (is_at q) (map key xs)
        → is_some (cond b (Some x) (find (λ y. is_at q (key y)) xs)) ≡ (b || list_any (is_at q) (map key xs))
    by true rest = refl
    by false rest = rest

module _ {X : Type 0} where
  pub found : (q : List ℕ) (es : List (List ℕ × X)) → lookup (at_query (slice_cmp nat_cmp q)) es ≡ maps.find (slice_cmp nat_cmp) q es
  found q [] = refl
  found q (e ∷ es) = ap (λ (rest : Option X). cond (is_at q e.0) (Some e.1) rest) (found q es)

  below-rising : (x : List ℕ) (es : List (List ℕ × X)) → AllByRecursion (λ y. slice_cmp nat_cmp x y ≡ Less) (keys_of es) → below_all (slice_cmp nat_cmp) x es ≡ true
  below-rising x [] all = refl
  below-rising x (e ∷ es) all = and_from (is_lt (slice_cmp nat_cmp x e.0)) (below_all (slice_cmp nat_cmp) x es) (ap is_lt all.0) (below-rising x es all.1)

  pub sorted-rising : (es : List (List ℕ × X)) → IsStrictlySortedBy (slice_cmp nat_cmp) (keys_of es) → maps.is_sorted (slice_cmp nat_cmp) es ≡ true
  unfolding IsStrictlySortedBy
  sorted-rising [] rising = refl
  sorted-rising (e ∷ es) rising = and_from (below_all (slice_cmp nat_cmp) e.0 es) (maps.is_sorted (slice_cmp nat_cmp) es) (below-rising e.0 es rising.0) (sorted-rising es rising.1)
