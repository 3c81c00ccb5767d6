-- The numbers of rows that differ, row by row, and that tables agree beside them.
use Rattle.std.proofs.Common.{◌≡◌, ℕ, ◌==◌, ◌||◌, Bool, true, false, cond, not, List, [], ◌∷◌, map, filter, Option, Some, None, refl, sym, ◌∙◌, ap, arith, subst}
use Rattle.std.proofs.lemmas.Bool.Decides.{nat_tests}
use Rattle.std.specs.List.Sorted.{IsStrictlySortedBy}
use Rattle.std.specs.Ordering.{nat_cmp}
use Rattle.dl_base.specs.declared.value.Row.{Row}
use Rattle.dl_pages.specs.Sets.{WithMember}
use Rattle.db_changes.specs.Made.{changes_at}
use Rattle.db_changes.specs.Touched.{AddsNumbers, Agree, among}
use Rattle.db_changes.proofs.RowsTouched.{changes-touched, has-among}
use Rattle.meaning_areas.specs.Same.{same_row}
use Rattle.meaning_areas.proofs.Equal.{row-decides}
use Rattle.meaning_merge.specs.Merging.{is_changed, row_changes}
use Rattle.meaning_merge.proofs.Numbers.{none}
use Rattle.meaning_tables.specs.Tables.{Rise, Rows, row_of}
use Rattle.sql_table.proofs.Marking.{eq-cmp}
use Rattle.bk_restore.specs.Differing.{numbers_if, one_if, other_numbers}

same : (a b : ℕ) → (a == b) ≡ true → a ≡ b
same a b e = grind (arith, nat_tests)

turned : (a b : ℕ) → (a == b) ≡ true → (b == a) ≡ true
turned a b e = grind (arith, nat_tests)

some_same : (x y : Row) → Some x ≡ Some y → x ≡ y
some_same x y e = cc

none_some : (x : Row) → None ≡ Some x → ⊥
none_some x e = cc

-- one more row: its number is among those of the rows so far, where it passes the test
pub numbers-turn : (test : ℕ × Row → Bool) (rows rest : List (ℕ × Row)) (r : ℕ × Row) (old new : List ℕ) → rows ≡ r ∷ rest → AddsNumbers (one_if (test r) r.0) old new
    → (n : ℕ) (s : Bool) → (among (numbers_if test rows) n || among old n) ≡ s → (among (numbers_if test rest) n || among new n) ≡ s
numbers-turn test rows rest r old new at adds n s so_far =
    ap (λ b. among (numbers_if test rest) n || b) (adds n)
    ∙ by (test r)
    ∙ ap (λ (rs : List (ℕ × Row)). among (numbers_if test rs) n || among old n) (sym at) ∙ so_far
  where
    moved : (m k o : Bool) → (m || ((k || false) || o)) ≡ ((k || m) || o)
    moved true true o = refl
    moved true false o = refl
    moved false true o = refl
    moved false false o = refl

    by : (b : Bool) → (among (numbers_if test rest) n || (among (one_if b r.0) n || among old n)) ≡ (among (map (λ x. x.0) (cond b (r ∷ filter test rest) (filter test rest))) n || among old n)
    by true = moved (among (numbers_if test rest) n) (r.0 == n) (among old n)
    by false = refl

-- the same by steps: the test is asked of the row that the first table has under the number
pub others-turn : (first rows rest : List (ℕ × Row)) (r : ℕ × Row) (w : Option Row) (is : Bool) (old new : List ℕ) → rows ≡ r ∷ rest → w ≡ row_of first r.0 → is ≡ is_changed w r → AddsNumbers (one_if is r.0) old new
    → (n : ℕ) (s : Bool) → (among (other_numbers first rows) n || among old n) ≡ s → (among (other_numbers first rest) n || among new n) ≡ s
others-turn first rows rest r w is old new at found asked adds =
    numbers-turn (λ x. is_changed (row_of first x.0) x) rows rest r old new at
    (subst (λ b. AddsNumbers (one_if b r.0) old new) (asked ∙ ap (λ (o : Option Row). is_changed o r) found) adds)

-- a row whose number is not among them fails the test
untested : (test : ℕ × Row → Bool) (rows : List (ℕ × Row)) (n : ℕ) (r : Row) → row_of rows n ≡ Some r → among (numbers_if test rows) n ≡ false → test (n, r) ≡ false
untested test [] n r at out = absurd (none_some r at)
untested test (x ∷ xs) n r at out = by (n == x.0) refl (test x) refl at out (λ later lacks. untested test xs n r later lacks)
  where
    this : (n == x.0) ≡ true → Some x.1 ≡ Some r → test (n, r) ≡ test x
    this e is = λ i. test (same n x.0 e i, sym (some_same x.1 r is) i)

    lacking : (n == x.0) ≡ true → ((x.0 == n) || among (numbers_if test xs) n) ≡ false → ⊥
    lacking e lacks = let two = none (x.0 == n) (among (numbers_if test xs) n) lacks in (let one = turned n x.0 e in let other = two.0 in cc)

    by : (b : Bool) → (n == x.0) ≡ b → (t : Bool) → test x ≡ t → cond b (Some x.1) (row_of xs n) ≡ Some r → among (map (λ y. y.0) (cond t (x ∷ filter test xs) (filter test xs))) n ≡ false
        → (row_of xs n ≡ Some r → among (numbers_if test xs) n ≡ false → test (n, r) ≡ false) → test (n, r) ≡ false
    by true e true passes at out go = absurd (lacking e out)
    by true e false fails at out go = this e at ∙ fails
    by false e true passes at out go = go at (none (x.0 == n) (among (numbers_if test xs) n) out).1
    by false e false fails at out go = go at out

-- TABLES AGREE beside the numbers of the rows that one has otherwise than the other
pub agrees : (was now : List (ℕ × Row)) (one two three : List ℕ) → one ≡ [] → AddsNumbers (other_numbers was now) one two → AddsNumbers (other_numbers now was) two three → Agree three was now
agrees was now one two three empty forth back n out = by (row_of now n) refl (row_of was n) refl
  where
    out_back : (among (other_numbers now was) n ≡ false) × (among two n ≡ false)
    out_back = none (among (other_numbers now was) n) (among two n) (sym (back n) ∙ out)

    out_forth : among (other_numbers was now) n ≡ false
    out_forth = (none (among (other_numbers was now) n) (among one n) (sym (forth n) ∙ out_back.1)).0

    is_false : (b : Bool) → not b ≡ false → b ≡ true
    is_false true e = refl
    is_false false e = absurd cc

    same_of : (w : Option Row) (r : Row) → is_changed w (n, r) ≡ false → Some r ≡ w
    same_of None r e = absurd cc
    same_of (Some w) r e = ap (λ (x : ℕ × Row). Some x.1) (sym ((row-decides (n, w) (n, r)).0 (is_false (same_row (n, w) (n, r)) e)))

    by : (o : Option Row) → row_of now n ≡ o → (w : Option Row) → row_of was n ≡ w → row_of now n ≡ row_of was n
    by (Some r) at w at_was = at ∙ same_of (row_of was n) r (untested (λ x. is_changed (row_of was x.0) x) now n r at out_forth)
    by None at None at_was = at ∙ sym at_was
    by None at (Some w) at_was = absurd (none_some w (sym at ∙ sym (same_of (row_of now n) w (untested (λ x. is_changed (row_of now x.0) x) was n w at_was out_back.0))))

-- a set with one number more
one-added : (made new : List ℕ) (x : ℕ) → WithMember nat_cmp made new x → AddsNumbers (x ∷ []) made new
one-added made new x more n =
    sym (has-among new n) ∙ more.each n ∙ (λ i. eq-cmp n x i || has-among made n i) ∙ by (x == n) (among made n)
  where
    by : (a b : Bool) → (a || b) ≡ ((a || false) || b)
    by true b = refl
    by false b = refl

-- where it is to be added, and where not

pub added-if : (is : Bool) (made new : List ℕ) (x : ℕ) → is ≡ true → WithMember nat_cmp made new x → AddsNumbers (one_if is x) made new
added-if true made new x e more = one-added made new x more
added-if false made new x e more = absurd cc

-- so the changes are those of these numbers
pub changes-differing : (was now : Rows) (numbers : List ℕ) → Rise 0 was.next was.rows → Rise 0 now.next now.rows → IsStrictlySortedBy nat_cmp numbers → Agree numbers was.rows now.rows → changes_at was.rows now.rows numbers ≡ row_changes was.rows now.rows
changes-differing was now numbers rise rise_now sorted agree = sym (changes-touched was.next now.next was.rows now.rows numbers rise rise_now sorted agree)
