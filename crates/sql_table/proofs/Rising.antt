-- Lists of rising numbers, and what is made of each of their numbers.
use Rattle.std.proofs.Common.{◌≡◌, ℕ, zero, suc, ◌+◌, ◌<◌, ◌≤◌, ◌==◌, true, false, List, [], ◌∷◌, ◌++◌, length, refl, sym, ap, ◌∙◌, arith, subst}
use Rattle.std.specs.List.{flat_map, AllByRecursion}
use Rattle.std.specs.List.Sorted.{IsStrictlySortedBy}
use Rattle.std.specs.Ordering.{is_eq, nat_cmp}
use Rattle.std.specs.declared.cmp.Ordering.TheVariants.{Less, Equal, Greater}
use Rattle.std.proofs.lemmas.Bool.{eq-eqb}
use Rattle.std.proofs.lemmas.Bool.Decides.{nat_tests}
use Rattle.std.proofs.lemmas.Cmp.{by_ranked, ranked}
use Rattle.dl_pages.specs.Sets.{has}
use Rattle.sql_table.proofs.Marking.{eq-cmp}

-- numbers that rise, from one on
abbrev pub Rising : ℕ → List ℕ → Type 0
Rising first [] = Unit {0}
Rising first (n ∷ ns) = (first ≤ n) × Rising (n + 1) ns

above : (n : ℕ) (ns : List ℕ) → AllByRecursion (λ z. nat_cmp n z ≡ Less) ns → AllByRecursion (λ z. n + 1 ≤ z) ns
above n [] all = tt
above n (m ∷ ms) all = (by_ranked (n < m) (n ≡ m) (m < n) (nat_cmp n m) (ranked n m (nat_cmp n m) refl) (λ r less. omega (arith, less)) (λ r same. absurd (clash-equal r)) (λ r more. absurd (clash-greater r)), above n ms all.1)
  where
    clash-equal : nat_cmp n m ≡ Equal → ⊥
    clash-equal r = cc (sym r ∙ all.0)

    clash-greater : nat_cmp n m ≡ Greater → ⊥
    clash-greater r = cc (sym r ∙ all.0)

rising-from : (first : ℕ) (ns : List ℕ) → AllByRecursion (λ z. first ≤ z) ns → IsStrictlySortedBy nat_cmp ns → Rising first ns
unfolding IsStrictlySortedBy
rising-from first [] all s = tt
rising-from first (n ∷ ns) all s = (all.0, rising-from (n + 1) ns (above n ns s.0) s.1)

from-nought : (ns : List ℕ) → AllByRecursion (λ z. 0 ≤ z) ns
from-nought [] = tt
from-nought (n ∷ ns) = (omega arith, from-nought ns)

-- what is in order rises from 0 on
pub sorted_rises : (ns : List ℕ) → IsStrictlySortedBy nat_cmp ns → Rising 0 ns
sorted_rises ns s = rising-from 0 ns (from-nought ns) s

pub apart : (n m : ℕ) → (n ≡ m → ⊥) → is_eq (nat_cmp n m) ≡ false
apart n m other = eq-cmp n m ∙ differ
  where
    differ : (m == n) ≡ false
    differ = grind (arith, nat_tests, other)

pub differs : (n m : ℕ) → is_eq (nat_cmp n m) ≡ false → n ≡ m → ⊥
differs n m e same = clash (sym (eq-cmp n m) ∙ e) (eq-eqb m n (sym same))
  where
    clash : (m == n) ≡ false → (m == n) ≡ true → ⊥
    clash a b = cc (sym a ∙ b)

not-in : (first n : ℕ) (ns : List ℕ) → Rising first ns → n < first → has nat_cmp ns n ≡ false
not-in first n [] rise less = refl
not-in first n (m ∷ ms) rise less = rw (apart n m (λ e. omega (arith, rise.0, less))) (not-in (m + 1) n ms rise.1 (omega (arith, rise.0)))

later-out : (x n : ℕ) (xs : List ℕ) → x + 1 ≤ n → has nat_cmp xs n ≡ false → has nat_cmp (x ∷ xs) n ≡ false
later-out x n xs past out = rw (apart n x (λ e. omega (arith, past))) out

module _ {A : Type 0} (f : ℕ → List A) where
  -- from a number on, numbers that a list lacks make nothing
  abbrev pub Lacked : ℕ → List ℕ → Type 0
  Lacked first ns = (n : ℕ) → first ≤ n → has nat_cmp ns n ≡ false → f n ≡ []

  nothing : (first : ℕ) (ns : List ℕ) → Rising first ns → Lacked first [] → flat_map f ns ≡ []
  nothing first [] rise none = refl
  nothing first (n ∷ ns) rise none = rw (none n rise.0 refl) (nothing (n + 1) ns rise.1 (λ m past out. none m (omega (arith, past, rise.0)) refl))

  step : (fuel first x y : ℕ) (xs ys : List ℕ) → ((least : ℕ) (us vs : List ℕ) → length us + length vs ≤ fuel → Rising least us → Rising least vs → Lacked least us → Lacked least vs → flat_map f us ≡ flat_map f vs)
      → length (x ∷ xs) + length (y ∷ ys) ≤ suc fuel → Rising first (x ∷ xs) → Rising first (y ∷ ys) → Lacked first (x ∷ xs) → Lacked first (y ∷ ys) → flat_map f (x ∷ xs) ≡ flat_map f (y ∷ ys)
  step fuel first x y xs ys ih small rx ry mx my = by_ranked (x < y) (x ≡ y) (y < x) (nat_cmp x y) (ranked x y (nat_cmp x y) refl)
      (λ r less.
      let none : f x ≡ [] = my x rx.0 (not-in (x + 1) x (y ∷ ys) (omega (arith, less), ry.1) (omega arith)) in
      ap (λ l. l ++ flat_map f xs) none
      ∙ ih (x + 1) xs (y ∷ ys) (omega (arith, small)) rx.1 (omega (arith, less), ry.1) (λ n past out. mx n (omega (arith, past, rx.0)) (later-out x n xs past out)) (λ n past out. my n (omega (arith, past, rx.0)) out))
      (λ r same.
      ap (λ k. f k ++ flat_map f xs) same
      ∙ ap (λ l. f y ++ l) (ih (x + 1) xs ys (omega (arith, small)) rx.1 (subst (λ k. Rising (k + 1) ys) (sym same) ry.1) (λ n past out. mx n (omega (arith, past, rx.0)) (later-out x n xs past out)) (λ n past out. my n (omega (arith, past, rx.0)) (later-out y n ys (omega (arith, past, same)) out))))
      (λ r more.
      let none : f y ≡ [] = mx y ry.0 (not-in (y + 1) y (x ∷ xs) (omega (arith, more), rx.1) (omega arith)) in
      ih (y + 1) (x ∷ xs) ys (omega (arith, small)) (omega (arith, more), rx.1) ry.1 (λ n past out. mx n (omega (arith, past, ry.0)) out) (λ n past out. my n (omega (arith, past, ry.0)) (later-out y n ys past out))
      ∙ sym (ap (λ l. l ++ flat_map f ys) none))

  same-up-to : (fuel first : ℕ) (xs ys : List ℕ) → length xs + length ys ≤ fuel → Rising first xs → Rising first ys → Lacked first xs → Lacked first ys → flat_map f xs ≡ flat_map f ys
  same-up-to fuel first [] ys small rx ry mx my = sym (nothing first ys ry mx)
  same-up-to zero first (x ∷ xs) ys small rx ry mx my = absurd (omega (arith, small))
  same-up-to (suc fuel) first (x ∷ xs) [] small rx ry mx my = nothing first (x ∷ xs) rx my
  same-up-to (suc fuel) first (x ∷ xs) (y ∷ ys) small rx ry mx my = step fuel first x y xs ys (same-up-to fuel) small rx ry mx my

  -- two rising lists make the same, where what one lacks makes nothing
  pub same_made : (xs ys : List ℕ) → Rising 0 xs → Rising 0 ys → Lacked 0 xs → Lacked 0 ys → flat_map f xs ≡ flat_map f ys
  same_made xs ys rx ry mx my = same-up-to (length xs + length ys) 0 xs ys (omega arith) rx ry mx my
