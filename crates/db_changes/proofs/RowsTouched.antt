-- The changes of the rows of a table are those of the rows of some numbers, where the rows of all others are the same.
use Rattle.std.proofs.Common.{◌≡◌, ℕ, ◌+◌, ◌==◌, ◌<◌, ◌≤◌, ◌||◌, Bool, true, false, not, cond, List, [], ◌∷◌, ◌++◌, map, filter, nat_le, nat_lt, Option, Some, None, refl, sym, ◌∙◌, ap, arith}
use Rattle.std.specs.Cmp.Lexicographic.{pointwise, pointwise_decides}
use Rattle.std.specs.List.{flat_map}
use Rattle.std.specs.List.Sorted.{IsStrictlySortedBy}
use Rattle.std.specs.Ordering.{is_eq, nat_cmp}
use Rattle.std.proofs.lemmas.Bool.Decides.{nat_tests}
use Rattle.dl_base.specs.declared.value.Row.{Row}
use Rattle.dl_base.specs.declared.value.Value.{Value}
use Rattle.dl_codec.specs.declared.rows.RowChange.{RowChange}
use Rattle.dl_pages.specs.Sets.{has}
use Rattle.meaning_areas.specs.Commits.{by_values, rising, with_row_changes}
use Rattle.meaning_areas.specs.Same.{same_row}
use Rattle.meaning_areas.proofs.Equal.{row-decides}
use Rattle.meaning_merge.specs.Merging.{is_changed, is_gone, put_removed, removed, row_change, row_changes, with_removed}
use Rattle.meaning_merge.proofs.Numbers.{both, never, none}
use Rattle.meaning_merge.proofs.RowChanges.{below-none, changes-lead, changes-rising, put-at}
use Rattle.meaning_tables.specs.Tables.{Rise, row_of, without_row}
use Rattle.sql_table.proofs.Marking.{eq-cmp}
use Rattle.sql_table.proofs.Rising.{Rising, differs, same_made, sorted_rises}
use Rattle.db_changes.specs.Made.{change_at, changes_at}
use Rattle.db_changes.specs.Touched.{Agree, among}

self : (a : ℕ) → (a == a) ≡ true
self a = grind (arith, nat_tests)

same : (a b : ℕ) → (a == b) ≡ true → a ≡ b
same a b e = grind (arith, nat_tests)

other : (a b : ℕ) → (a ≡ b → ⊥) → (a == b) ≡ false
other a b e = grind (arith, nat_tests)

most : (a b : ℕ) → nat_le a b ≡ true → a ≤ b
most a b e = grind (arith, nat_tests)

is_false : (b : Bool) → not b ≡ true → b ≡ false
is_false true e = absurd cc
is_false false e = refl

no_row : (o : Option Row) → is_gone o ≡ true → o ≡ None
no_row None e = refl
no_row (Some r) e = absurd cc

none_some : (r : Row) → None ≡ Some r → ⊥
none_some r e = cc

some-from : (first below : ℕ) (rows : List (ℕ × Row)) (n : ℕ) (row : Row) → Rise first below rows → row_of rows n ≡ Some row → first ≤ n
some-from first below rows n row rise is = by (nat_le first n) refl
  where
    under : nat_le first n ≡ false → n < first
    under e = grind (arith, nat_tests)

    by : (b : Bool) → nat_le first n ≡ b → first ≤ n
    by true e = most first n e
    by false e = absurd (none_some row (sym (below-none first below rows n rise (under e)) ∙ is))

-- a number is among others as one of a set is
pub has-among : (numbers : List ℕ) (n : ℕ) → has nat_cmp numbers n ≡ among numbers n
has-among [] n = refl
has-among (m ∷ ms) n = ap (λ b. b || has nat_cmp ms n) (eq-cmp n m) ∙ ap (λ b. (m == n) || b) (has-among ms n)

rises : (least : ℕ) (ns : List ℕ) → rising least ns ≡ true → Rising least ns
rises least [] e = tt
rises least (n ∷ ns) e = let two = both (nat_le least n) (rising (n + 1) ns) e in (most least n two.0, rises (n + 1) ns two.1)

-- rows of other numbers than the changed ones stay

without-other : (rows : List (ℕ × Row)) (m n : ℕ) → (n ≡ m → ⊥) → row_of (without_row rows m) n ≡ row_of rows n
without-other [] m n apart = refl
without-other (r ∷ rs) m n apart = by (m == r.0) refl (without-other rs m n apart)
  where
    by : (b : Bool) → (m == r.0) ≡ b → row_of (without_row rs m) n ≡ row_of rs n → row_of (cond b rs (r ∷ without_row rs m)) n ≡ cond (n == r.0) (Some r.1) (row_of rs n)
    by true e go = sym (ap (λ b. cond b (Some r.1) (row_of rs n)) (other n r.0 (λ is. apart (is ∙ sym (same m r.0 e)))))
    by false e go = ap (λ (o : Option Row). cond (n == r.0) (Some r.1) o) go

change-other : (rows : List (ℕ × Row)) (m : ℕ) (values : Option (List Value)) (n : ℕ) → (n ≡ m → ⊥) → row_of (by_values rows m values) n ≡ row_of rows n
change-other rows m None n apart = without-other rows m n apart
change-other rows m (Some vs) n apart = put-at rows m (record { values = vs }) n ∙ ap (λ b. cond b (Some (record { values = vs })) (row_of rows n)) (other n m apart)

pub changes-other : (rows : List (ℕ × Row)) (made : List RowChange) (n : ℕ) → has nat_cmp (map (λ c. c.number) made) n ≡ false → row_of (with_row_changes rows made) n ≡ row_of rows n
changes-other rows [] n out = refl
changes-other rows (c ∷ cs) n out =
    let two = none (is_eq (nat_cmp n c.number)) (has nat_cmp (map (λ x. x.number) cs) n) out in
    changes-other (by_values rows c.number c.values) cs n two.1 ∙ change-other rows c.number c.values n (differs n c.number two.0)

same-nothing : (o : Option Row) (n : ℕ) → change_at o o n ≡ []
same-nothing None n = refl
same-nothing (Some r) n = ap (λ b. cond b [] (row_change (n, r) ∷ [])) ((row-decides (n, r) (n, r)).1 refl)

told : (w : Option Row) (r : ℕ × Row) → is_changed w r ≡ true → change_at w (Some r.1) r.0 ≡ row_change r ∷ []
told None r e = refl
told (Some w) r e = ap (λ b. cond b [] (row_change r ∷ [])) (is_false (same_row (r.0, w) r) e)

is_true : (b : Bool) → not b ≡ false → b ≡ true
is_true true e = refl
is_true false e = absurd cc

untold : (w : Option Row) (r : ℕ × Row) → is_changed w r ≡ false → change_at w (Some r.1) r.0 ≡ []
untold None r e = absurd cc
untold (Some w) r e = ap (λ b. cond b [] (row_change r ∷ [])) (is_true (same_row (r.0, w) r) e)

-- the change of a row that is there, by a test of the row before

pub row-told : (w o x : Option Row) (r : Row) (n : ℕ) (b : Bool) → Some r ≡ o → x ≡ w → b ≡ is_changed x (n, r) → b ≡ true → change_at w o n ≡ row_change (n, r) ∷ []
row-told w o x r n b is same_w test passed = ap (λ (y : Option Row). change_at w y n) (sym is) ∙ told w (n, r) (ap (λ (y : Option Row). is_changed y (n, r)) (sym same_w) ∙ sym test ∙ passed)

pub row-untold : (w o x : Option Row) (r : Row) (n : ℕ) (b : Bool) → Some r ≡ o → x ≡ w → b ≡ is_changed x (n, r) → b ≡ false → change_at w o n ≡ []
row-untold w o x r n b is same_w test failed = ap (λ (y : Option Row). change_at w y n) (sym is) ∙ untold w (n, r) (ap (λ (y : Option Row). is_changed y (n, r)) (sym same_w) ∙ sym test ∙ failed)

module _ (was now : List (ℕ × Row)) where
  abbrev at : ℕ → List RowChange
  at n = change_at (row_of was n) (row_of now n) n

  nothing : (n : ℕ) → row_of now n ≡ row_of was n → at n ≡ []
  nothing n e = ap (λ (o : Option Row). change_at (row_of was n) o n) e ∙ same-nothing (row_of was n) n

  -- changes that are those of their numbers
  abbrev AreThose : List RowChange → Type 0
  AreThose [] = Unit {0}
  AreThose (c ∷ cs) = (at c.number ≡ c ∷ []) × AreThose cs

  those : (made : List RowChange) → AreThose made → flat_map at (map (λ c. c.number) made) ≡ made
  those [] all = refl
  those (c ∷ cs) all = ap (λ (xs : List RowChange). xs ++ flat_map at (map (λ x. x.number) cs)) all.0 ∙ ap (λ (xs : List RowChange). c ∷ xs) (those cs all.1)

  later : (first below : ℕ) (rs : List (ℕ × Row)) (r : ℕ × Row) (n : ℕ) (row : Row) → Rise (r.0 + 1) below rs → row_of rs n ≡ Some row → row_of (r ∷ rs) n ≡ Some row
  later first below rs r n row rise is = let from = some-from (r.0 + 1) below rs n row rise is in ap (λ b. cond b (Some r.1) (row_of rs n)) (other n r.0 (λ e. omega (arith, from, e))) ∙ is

  head : (rs : List (ℕ × Row)) (r : ℕ × Row) → row_of (r ∷ rs) r.0 ≡ Some r.1
  head rs r = ap (λ b. cond b (Some r.1) (row_of rs r.0)) (self r.0)

  changed-those : (first below : ℕ) (rows : List (ℕ × Row)) → Rise first below rows → ((n : ℕ) (row : Row) → row_of rows n ≡ Some row → row_of now n ≡ Some row) → AreThose (map row_change (filter (λ r. is_changed (row_of was r.0) r) rows))
  changed-those first below [] rise of = tt
  changed-those first below (r ∷ rs) rise of = by (is_changed (row_of was r.0) r) refl (changed-those (r.0 + 1) below rs rise.2 (λ n row is. of n row (later first below rs r n row rise.2 is)))
    where
      by : (b : Bool) → is_changed (row_of was r.0) r ≡ b → AreThose (map row_change (filter (λ x. is_changed (row_of was x.0) x) rs))
          → AreThose (map row_change (cond b (r ∷ filter (λ x. is_changed (row_of was x.0) x) rs) (filter (λ x. is_changed (row_of was x.0) x) rs)))
      by true e go = (ap (λ (o : Option Row). change_at (row_of was r.0) o r.0) (of r.0 r.1 (head rs r)) ∙ told (row_of was r.0) r e, go)
      by false e go = go

  put-those : (m : ℕ) (made : List RowChange) → at m ≡ removed m ∷ [] → AreThose made → AreThose (put_removed m made)
  put-those m [] is all = (is, tt)
  put-those m (c ∷ cs) is all = by (nat_lt m c.number) (put-those m cs is all.1)
    where
      by : (b : Bool) → AreThose (put_removed m cs) → AreThose (cond b (removed m ∷ c ∷ cs) (c ∷ put_removed m cs))
      by true go = (is, all)
      by false go = (all.0, go)

  removed-those : (first below : ℕ) (rows : List (ℕ × Row)) (made : List RowChange) → Rise first below rows → ((n : ℕ) (row : Row) → row_of rows n ≡ Some row → row_of was n ≡ Some row) → AreThose made → AreThose (with_removed now rows made)
  removed-those first below [] made rise of all = all
  removed-those first below (r ∷ rs) made rise of all = removed-those (r.0 + 1) below rs (cond (is_gone (row_of now r.0)) (put_removed r.0 made) made) rise.2 (λ n row is. of n row (later first below rs r n row rise.2 is)) (by (is_gone (row_of now r.0)) refl)
    where
      by : (b : Bool) → is_gone (row_of now r.0) ≡ b → AreThose (cond b (put_removed r.0 made) made)
      by true e = put-those r.0 made (ap (λ (o : Option Row). change_at o (row_of now r.0) r.0) (of r.0 r.1 (head rs r)) ∙ ap (λ (o : Option Row). change_at (Some r.1) o r.0) (no_row (row_of now r.0) e)) all
      by false e = all

  -- THE CHANGES of rows are those of some numbers
  pub changes-of : (below : ℕ) (numbers : List ℕ) → Rise 0 below was → Rise 0 below now → Rising 0 numbers → Agree numbers was now → row_changes was now ≡ changes_at was now numbers
  changes-of below numbers rise rise_now up agree =
      sym (those (row_changes was now) all_those)
      ∙ same_made at (map (λ c. c.number) (row_changes was now)) numbers (rises 0 (map (λ c. c.number) (row_changes was now)) (changes-rising was now below rise rise_now)) up
      (λ n from out. nothing n (ap (λ (rows : List (ℕ × Row)). row_of rows n) (sym (changes-lead was now below rise rise_now)) ∙ changes-other was (row_changes was now) n out))
      (λ n from out. nothing n (agree n (sym (has-among numbers n) ∙ out)))
    where
      all_those : AreThose (row_changes was now)
      all_those = removed-those 0 below was (map row_change (filter (λ r. is_changed (row_of was r.0) r) now)) rise (λ n row is. is) (changed-those 0 below now rise_now (λ n row is. is))

wider : (first below more : ℕ) (rows : List (ℕ × Row)) → below ≤ more → Rise first below rows → Rise first more rows
wider first below more [] le rise = tt
wider first below more (r ∷ rs) le rise = let lt = rise.1 in (rise.0, omega (arith, le, lt), wider (r.0 + 1) below more rs le rise.2)

pub changes-touched : (before next : ℕ) (was now : List (ℕ × Row)) (numbers : List ℕ) → Rise 0 before was → Rise 0 next now → IsStrictlySortedBy nat_cmp numbers → Agree numbers was now → row_changes was now ≡ changes_at was now numbers
changes-touched before next was now numbers rise rise_now sorted agree = changes-of was now (before + next) numbers (wider 0 before (before + next) was (omega arith) rise) (wider 0 next (before + next) now (omega arith) rise_now) (sorted_rises numbers sorted) agree

-- rows are the same where there are no changes

abbrev pub no_changes : List RowChange → Bool
no_changes [] = true
no_changes (c ∷ cs) = false

pub rows-same : (before next : ℕ) (was now : List (ℕ × Row)) → Rise 0 before was → Rise 0 next now → pointwise same_row was now ≡ no_changes (row_changes was now)
rows-same before next was now rise rise_now = by (row_changes was now) refl
  where
    rise_wide : Rise 0 (before + next) was
    rise_wide = wider 0 before (before + next) was (omega arith) rise

    rise_now_wide : Rise 0 (before + next) now
    rise_now_wide = wider 0 next (before + next) now (omega arith) rise_now

    none-of : was ≡ now → row_changes was now ≡ []
    none-of is = ap (row_changes was) (sym is) ∙ changes-of was was (before + next) [] rise_wide rise_wide tt (λ n out. refl)

    by : (made : List RowChange) → row_changes was now ≡ made → pointwise same_row was now ≡ no_changes made
    by [] e = (pointwise_decides row-decides was now).1 (ap (with_row_changes was) (sym e) ∙ changes-lead was now (before + next) rise_wide rise_now_wide)
    by (c ∷ cs) e = never (pointwise same_row was now) (λ is. (let none : [] ≡ c ∷ cs = sym (none-of ((pointwise_decides row-decides was now).0 is)) ∙ e in cc))
