-- Plain facts of options, tests, keys and maps from numbers.
use Rattle.std.proofs.Common.{◌≡◌, ◌≢◌, ◌⊎◌, inl, inr, ⊎_elim, ℕ, List, Bool, true, false, cond, ◌==◌, ◌&&◌, ◌||◌, Option, Some, None, is_some, refl, sym, ◌∙◌, ap, arith}
use Rattle.std.proofs.lemmas.Bool.{cases_eq}
use Rattle.std.proofs.lemmas.Bool.Decides.{nat_tests}
use Rattle.std.specs.Cmp.{Equal-is, nat_cmp_total, tied_itself, unsigned_tied}
use Rattle.std.specs.Cmp.Lexicographic.{nat_list_cmp_total, slice_cmp}
use Rattle.std.specs.FinMap as maps
use Rattle.std.specs.FinMap.{get-insert, nat_cmp-IsAntisymmetric, same_map, slice_cmp-IsAntisymmetric}
use Rattle.std.specs.Ordering.{is_eq, nat_cmp}
use Rattle.meaning_settling.specs.Keyed.{is_at}

pub false_true : false ≡ true → ⊥
false_true e = cc

pub none_some : {A : Type 0} (x : A) → None ≡ Some x → ⊥
none_some x e = cc

pub some_same : {A : Type 0} (x y : A) → Some x ≡ Some y → x ≡ y
some_same x y e = cc

pub the_some : {A : Type 0} (o : Option A) → is_some o ≡ true → (x : A) × (o ≡ Some x)
the_some (Some x) e = (x, refl)
the_some None e = absurd cc

pub either : (b : Bool) → (b ≡ true) ⊎ (b ≡ false)
either true = inl refl
either false = inr refl

pub and-false : (a : Bool) → (a && false) ≡ false
and-false true = refl
and-false false = refl

pub or-left : (a b : Bool) → a ≡ true → (a || b) ≡ true
or-left true b e = refl
or-left false b e = absurd (false_true e)

pub or-right : (a b : Bool) → b ≡ true → (a || b) ≡ true
or-right true b e = refl
or-right false b e = e

pub is_at-self : (k : List ℕ) → is_at k k ≡ true
is_at-self k = ap is_eq (tied_itself nat_list_cmp_total k)

pub is_at-same : (q k : List ℕ) → is_at q k ≡ true → q ≡ k
is_at-same q k e = slice_cmp-IsAntisymmetric nat_cmp-IsAntisymmetric q k ((Equal-is (slice_cmp nat_cmp q k)).0 e)

pub test-same : (x y : ℕ) → x ≡ y → (x == y) ≡ true
test-same x y is = grind (arith, nat_tests)

pub test-other : (x y : ℕ) → x ≢ y → (x == y) ≡ false
test-other x y other = grind (arith, nat_tests)

module _ {X : Type 0} (m : maps.FinMap nat_cmp X) (k : ℕ) (v : X) where
  pub get-at : (q : ℕ) → maps.get (maps.insert m k v) q ≡ cond (q == k) (Some v) (maps.get m q)
  get-at q = get-insert nat_cmp_total m k v q ∙ ap (λ b. cond b (Some v) (maps.get m q)) (unsigned_tied q k)

  pub get-here : maps.get (maps.insert m k v) k ≡ Some v
  get-here = get-at k ∙ ap (λ b. cond b (Some v) (maps.get m k)) (test-same k k refl)

  pub get-there : (q : ℕ) → q ≢ k → maps.get (maps.insert m k v) q ≡ maps.get m q
  get-there q other = get-at q ∙ ap (λ b. cond b (Some v) (maps.get m q)) (test-other q k other)

-- the later of two changes at one key
pub insert-twice : {X : Type 0} (m : maps.FinMap nat_cmp X) (k : ℕ) (a b : X) → maps.insert (maps.insert m k a) k b ≡ maps.insert m k b
insert-twice {X} m k a b = same_map nat_cmp_total nat_cmp-IsAntisymmetric _ _ (λ q.
    get-at (maps.insert m k a) k b q ∙ ap (cond (q == k) (Some b)) (get-at m k a q) ∙ shadowed (q == k) (maps.get m q) ∙ sym (get-at m k b q))
  where
    shadowed : (x : Bool) (o : Option X) → cond x (Some b) (cond x (Some a) o) ≡ cond x (Some b) o
    shadowed true o = refl
    shadowed false o = refl

-- what is there already
pub insert-same : {X : Type 0} (m : maps.FinMap nat_cmp X) (k : ℕ) (v : X) → maps.get m k ≡ Some v → maps.insert m k v ≡ m
insert-same m k v is = same_map nat_cmp_total nat_cmp-IsAntisymmetric _ _ (λ q. ⊎_elim
    (λ (e : q ≡ k). ap (maps.get (maps.insert m k v)) e ∙ get-here m k v ∙ sym is ∙ ap (maps.get m) (sym e))
    (λ (other : q ≢ k). get-there m k v q other)
    (cases_eq q k))
