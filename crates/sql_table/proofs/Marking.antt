-- Indexes, as rows come, change and go.
use Rattle.std.proofs.Common.{◌≡◌, ℕ, ◌+◌, ◌<◌, ◌≤◌, ◌==◌, ◌&&◌, ◌||◌, Bool, true, false, not, cond, Option, Some, None, List, [], ◌∷◌, ◌++◌, refl, sym, ap, ◌∙◌, arith, subst}
use Rattle.std.specs.Cmp.{IsTotalOrder}
use Rattle.std.specs.Cmp.Lexicographic.{pointwise}
use Rattle.std.specs.List.Sorted.{IsStrictlySortedBy}
use Rattle.std.specs.Ordering.{is_eq, nat_cmp, ordering_reverse, ordering_then}
use Rattle.std.specs.declared.cmp.Ordering.{Ordering}
use Rattle.std.specs.declared.cmp.Ordering.TheVariants.{Less, Equal, Greater}
use Rattle.std.proofs.lemmas.Bool.{eq-eqb, ne_eqb}
use Rattle.std.proofs.lemmas.Bool.Decides.{nat_tests}
use Rattle.dl_base.specs.declared.value.Row.{Row}
use Rattle.dl_pages.specs.Entries.{entry_order}
use Rattle.dl_pages.specs.Sets.{has, WithMember, WithoutMember}
use Rattle.meaning_tables.specs.Tables.{Rise, row_of, with_row, without_row}
use Rattle.sql_table.specs.Marks.{among, marked, IsIndex, OtherMarks, WithMarks, WithoutMarks}

-- what `==` of two numbers says, by their order
pub eq-cmp : (n m : ℕ) → is_eq (nat_cmp n m) ≡ (m == n)
eq-cmp n m = grind (arith, nat_tests)

pub and-then : (r s : Ordering) → is_eq (ordering_then r s) ≡ (is_eq s && is_eq r)
and-then Less Less = refl
and-then Less Equal = refl
and-then Less Greater = refl
and-then Equal Less = refl
and-then Equal Equal = refl
and-then Equal Greater = refl
and-then Greater Less = refl
and-then Greater Equal = refl
and-then Greater Greater = refl

more-bits : (n e a h : Bool) → ((n && a) || ((n && e) || h)) ≡ ((n && (e || a)) || h)
more-bits true true true h = refl
more-bits true true false h = refl
more-bits true false true h = refl
more-bits true false false h = refl
more-bits false e a h = refl

less-bits : (n e a h : Bool) → (not (n && a) && (not (n && e) && h)) ≡ (not (n && (e || a)) && h)
less-bits true true true h = refl
less-bits true true false h = refl
less-bits true false true h = refl
less-bits true false false h = refl
less-bits false e a h = refl

module _ {K : Type 0} (order : K → K → Ordering) where
  pub entry-eq : (k m : K) (n number : ℕ) → is_eq (entry_order order (k, n) (m, number)) ≡ ((number == n) && is_eq (order k m))
  entry-eq k m n number = and-then (order k m) (nat_cmp n number) ∙ ap (λ b. b && is_eq (order k m)) (eq-cmp n number)

  -- one more of the marks that are left
  pub marks-step : (number : ℕ) (m : K) (left : List K) (made new : List (K × ℕ)) → WithMember (entry_order order) made new (m, number) → (k : K) (n : ℕ)
      → (((number == n) && among order k left) || has (entry_order order) new (k, n)) ≡ (((number == n) && among order k (m ∷ left)) || has (entry_order order) made (k, n))
  marks-step number m left made new more k n =
      ap (λ b. ((number == n) && among order k left) || b) (more.each (k, n) ∙ ap (λ b. b || has (entry_order order) made (k, n)) (entry-eq k m n number))
      ∙ more-bits (number == n) (is_eq (order k m)) (among order k left) (has (entry_order order) made (k, n))

  pub unmarks-step : (number : ℕ) (m : K) (left : List K) (made new : List (K × ℕ)) → WithoutMember (entry_order order) made new (m, number) → (k : K) (n : ℕ)
      → (not ((number == n) && among order k left) && has (entry_order order) new (k, n)) ≡ (not ((number == n) && among order k (m ∷ left)) && has (entry_order order) made (k, n))
  unmarks-step number m left made new less k n =
      ap (λ b. not ((number == n) && among order k left) && b) (less.each (k, n) ∙ ap (λ b. not b && has (entry_order order) made (k, n)) (entry-eq k m n number))
      ∙ less-bits (number == n) (is_eq (order k m)) (among order k left) (has (entry_order order) made (k, n))

-- other marks under a number
module _ {K : Type 0} (order : K → K → Ordering) where
  other-bits : (a o h : Bool) → h ≡ o → (a || (not o && h)) ≡ a
  other-bits true o h e = refl
  other-bits false true h e = refl
  other-bits false false h e = e

  pub other_moved : (old marks : List K) (number : ℕ) (index between new : List (K × ℕ)) → WithoutMarks order old number index between → WithMarks order marks number between new → OtherMarks order old marks number index new
  other_moved old marks number index between new less more = record {
    sorted = more.sorted;
    each = λ k n own. more.each k n ∙ ap (λ h. ((number == n) && among order k marks) || h) (less.each k n) ∙ by k n own (number == n) refl;
  }
    where
      by : (k : K) (n : ℕ) → (number ≡ n → has (entry_order order) index (k, n) ≡ among order k old) → (b : Bool) → (number == n) ≡ b
          → ((b && among order k marks) || (not (b && among order k old) && has (entry_order order) index (k, n))) ≡ cond b (among order k marks) (has (entry_order order) index (k, n))
      by k n own true e = let same : number ≡ n = grind (arith, nat_tests) in other-bits (among order k marks) (among order k old) (has (entry_order order) index (k, n)) (own same)
      by k n own false e = refl

  equal-is : (r : Ordering) → is_eq r ≡ true → r ≡ Equal
  equal-is Less e = cc e
  equal-is Equal e = refl
  equal-is Greater e = cc e

  both-true : (a b : Bool) → (a && b) ≡ true → (a ≡ true) × (b ≡ true)
  both-true true b e = (refl, e)
  both-true false b e = cc e

  equal-among : IsTotalOrder order → (xs ys : List K) → pointwise (λ m o. is_eq (order m o)) xs ys ≡ true → (k : K) → among order k xs ≡ among order k ys
  equal-among o [] [] e k = refl
  equal-among o [] (y ∷ ys) e k = cc e
  equal-among o (x ∷ xs) [] e k = cc e
  equal-among o (x ∷ xs) (y ∷ ys) e k =
      let both = both-true (is_eq (order x y)) (pointwise (λ m o. is_eq (order m o)) xs ys) e in
      let turned : order k x ≡ order k y = o.antisymm k x ∙ ap ordering_reverse (o.congr x y k (equal-is (order x y) both.0)) ∙ sym (o.antisymm k y) in
      ap (λ r. is_eq r || among order k xs) turned ∙ ap (λ b. is_eq (order k y) || b) (equal-among o xs ys both.1 k)

  pub other_equal : IsTotalOrder order → (old marks : List K) (number : ℕ) (index new : List (K × ℕ)) → IsStrictlySortedBy (entry_order order) index → pointwise (λ m o. is_eq (order m o)) old marks ≡ true → new ≡ index → OtherMarks order old marks number index new
  other_equal o old marks number index new sorted equal e = subst (λ l. OtherMarks order old marks number index l) (sym e) (record {
    sorted = sorted;
    each = λ k n own. by k n own (number == n) refl;
  })
    where
      by : (k : K) (n : ℕ) → (number ≡ n → has (entry_order order) index (k, n) ≡ among order k old) → (b : Bool) → (number == n) ≡ b
          → has (entry_order order) index (k, n) ≡ cond b (among order k marks) (has (entry_order order) index (k, n))
      by k n own true e = let same : number ≡ n = grind (arith, nat_tests) in own same ∙ equal-among o old marks equal k
      by k n own false e = refl

-- the rows of numbers, after each change
beyond : (first below number : ℕ) (rows : List (ℕ × Row)) → Rise first below rows → below ≤ number → row_of rows number ≡ None
beyond first below number [] rise past = refl
beyond first below number (r ∷ rs) rise past = rw (ne_eqb number r.0 (λ e. omega (arith, rise.1))) (beyond (r.0 + 1) below number rs rise.2 past)

pub before-first : (first below number : ℕ) (rows : List (ℕ × Row)) → Rise first below rows → number < first → row_of rows number ≡ None
before-first first below number [] rise less = refl
before-first first below number (r ∷ rs) rise less = rw (ne_eqb number r.0 (λ e. omega (arith, rise.0))) (before-first (r.0 + 1) below number rs rise.2 (omega (arith, rise.0)))

row-pushed : (first below n : ℕ) (rows : List (ℕ × Row)) (row : Row) → Rise first below rows → row_of (rows ++ (below, row) ∷ []) n ≡ cond (below == n) (Some row) (row_of rows n)
row-pushed first below n [] row rise = flip (below == n) (n == below) (grind (arith, nat_tests))
  where
    flip : (a b : Bool) → a ≡ b → cond b (Some row) None ≡ cond a (Some row) None
    flip a b e = rw e refl
row-pushed first below n (r ∷ rs) row rise = by (row-pushed (r.0 + 1) below n rs row rise.2) (n == r.0) refl
  where
    by : row_of (rs ++ (below, row) ∷ []) n ≡ cond (below == n) (Some row) (row_of rs n) → (b : Bool) → (n == r.0) ≡ b → cond b (Some r.1) (row_of (rs ++ (below, row) ∷ []) n) ≡ cond (below == n) (Some row) (cond b (Some r.1) (row_of rs n))
    by ih false e = ih
    by ih true e = let same : n ≡ r.0 = grind (arith, nat_tests) in rw (ne_eqb below n (λ is. omega (arith, rise.1))) refl

row-replaced : (number n : ℕ) (rows : List (ℕ × Row)) (row before : Row) → row_of rows number ≡ Some before → row_of (with_row rows number row) n ≡ cond (number == n) (Some row) (row_of rows n)
row-replaced number n [] row before is = cc is
row-replaced number n (r ∷ rs) row before is = by (row-replaced number n rs row before) (number == r.0) refl is
  where
    by : (row_of rs number ≡ Some before → row_of (with_row rs number row) n ≡ cond (number == n) (Some row) (row_of rs n)) → (b : Bool) → (number == r.0) ≡ b → cond b (Some r.1) (row_of rs number) ≡ Some before → row_of (cond b ((r.0, row) ∷ rs) (r ∷ with_row rs number row)) n ≡ cond (number == n) (Some row) (cond (n == r.0) (Some r.1) (row_of rs n))
    by ih true e found = let same : number ≡ r.0 = grind (arith, nat_tests) in here (n == r.0) (number == n) (grind (arith, nat_tests))
      where
        here : (a b : Bool) → a ≡ b → cond a (Some row) (row_of rs n) ≡ cond b (Some row) (cond a (Some r.1) (row_of rs n))
        here true b is = rw (sym is) refl
        here false b is = rw (sym is) refl
    by ih false e found = there (ih found) (n == r.0) refl
      where
        there : row_of (with_row rs number row) n ≡ cond (number == n) (Some row) (row_of rs n) → (a : Bool) → (n == r.0) ≡ a → cond a (Some r.1) (row_of (with_row rs number row) n) ≡ cond (number == n) (Some row) (cond a (Some r.1) (row_of rs n))
        there ih false h = ih
        there ih true h = let same : n ≡ r.0 = grind (arith, nat_tests) in rw (ap (λ m. number == m) same ∙ e) refl

row-removed : (first below number n : ℕ) (rows : List (ℕ × Row)) → Rise first below rows → row_of (without_row rows number) n ≡ cond (number == n) None (row_of rows n)
row-removed first below number n [] rise = both None (number == n)
  where
    both : (x : Option Row) (b : Bool) → x ≡ cond b x x
    both x true = refl
    both x false = refl
row-removed first below number n (r ∷ rs) rise = by (row-removed (r.0 + 1) below number n rs rise.2) (number == r.0) refl
  where
    by : row_of (without_row rs number) n ≡ cond (number == n) None (row_of rs n) → (b : Bool) → (number == r.0) ≡ b → row_of (cond b rs (r ∷ without_row rs number)) n ≡ cond (number == n) None (cond (n == r.0) (Some r.1) (row_of rs n))
    by ih true e = let same : number ≡ r.0 = grind (arith, nat_tests) in here same (n == r.0) refl
      where
        here : number ≡ r.0 → (a : Bool) → (n == r.0) ≡ a → row_of rs n ≡ cond (number == n) None (cond a (Some r.1) (row_of rs n))
        here same true h = let is : n ≡ r.0 = grind (arith, nat_tests) in rw (before-first (r.0 + 1) below n rs rise.2 (omega arith), eq-eqb number n (omega arith)) refl
        here same false h = let apart : (number ≡ n → ⊥) = λ is. clash (eq-eqb n r.0 (sym is ∙ same)) in rw (ne_eqb number n apart) refl
          where
            clash : (n == r.0) ≡ true → ⊥
            clash k = cc (sym k ∙ h)
    by ih false e = there ih (n == r.0) refl
      where
        there : row_of (without_row rs number) n ≡ cond (number == n) None (row_of rs n) → (a : Bool) → (n == r.0) ≡ a → cond a (Some r.1) (row_of (without_row rs number) n) ≡ cond (number == n) None (cond a (Some r.1) (row_of rs n))
        there ih false h = ih
        there ih true h = let same : n ≡ r.0 = grind (arith, nat_tests) in rw (ap (λ m. number == m) same ∙ e) refl

module _ {K : Type 0} (order : K → K → Ordering) (marks : Row → List K) where
  pub index_none : (index : List (K × ℕ)) → index ≡ [] → IsIndex order marks [] index
  unfolding IsStrictlySortedBy
  index_none [] is = record { sorted = tt; each = λ k n. refl }
  index_none (e ∷ es) is = cc is

  cases-pushed : (k : K) (row : Row) (b : Bool) (old : Option Row) (h : Bool) → (b ≡ true → h ≡ false) → h ≡ marked order k marks old → ((b && among order k (marks row)) || h) ≡ marked order k marks (cond b (Some row) old)
  cases-pushed k row true old h none e = rw (none refl) (or-false (among order k (marks row)))
    where
      or-false : (a : Bool) → (a || false) ≡ a
      or-false true = refl
      or-false false = refl
  cases-pushed k row false old h none e = e

  pub index_inserted : (below : ℕ) (rows : List (ℕ × Row)) (row : Row) (index new : List (K × ℕ)) → Rise 0 below rows → IsIndex order marks rows index → WithMarks order (marks row) below index new → IsIndex order marks (rows ++ (below, row) ∷ []) new
  index_inserted below rows row index new rise was more = record {
    sorted = more.sorted;
    each = λ k n. more.each k n
        ∙ cases-pushed k row (below == n) (row_of rows n) (has (entry_order order) index (k, n)) (λ e. was.each k n ∙ ap (marked order k marks) (beyond 0 below n rows rise (from-eq below n e))) (was.each k n)
        ∙ ap (marked order k marks) (sym (row-pushed 0 below n rows row rise));
  }
    where
      from-eq : (a b : ℕ) → (a == b) ≡ true → a ≤ b
      from-eq a b e = grind (arith, nat_tests)

  cases-removed : (k : K) (before : Row) (b : Bool) (old : Option Row) (h : Bool) → (b ≡ true → old ≡ Some before) → h ≡ marked order k marks old → (not (b && among order k (marks before)) && h) ≡ marked order k marks (cond b None old)
  cases-removed k before true old h is e = rw (e ∙ ap (marked order k marks) (is refl)) (not-and (among order k (marks before)))
    where
      not-and : (a : Bool) → (not a && a) ≡ false
      not-and true = refl
      not-and false = refl
  cases-removed k before false old h is e = e

  found-at : (rows : List (ℕ × Row)) (number n : ℕ) (before : Row) → row_of rows number ≡ Some before → (number == n) ≡ true → row_of rows n ≡ Some before
  found-at rows number n before is e = let same : number ≡ n = grind (arith, nat_tests) in subst (λ m. row_of rows m ≡ Some before) same is

  pub index_removed : (below number : ℕ) (rows : List (ℕ × Row)) (before : Row) (index new : List (K × ℕ)) → Rise 0 below rows → row_of rows number ≡ Some before → IsIndex order marks rows index → WithoutMarks order (marks before) number index new → IsIndex order marks (without_row rows number) new
  index_removed below number rows before index new rise is was less = record {
    sorted = less.sorted;
    each = λ k n. less.each k n
        ∙ cases-removed k before (number == n) (row_of rows n) (has (entry_order order) index (k, n)) (found-at rows number n before is) (was.each k n)
        ∙ ap (marked order k marks) (sym (row-removed 0 below number n rows rise));
  }

  cases-other : (k : K) (row : Row) (b : Bool) (old : Option Row) (h : Bool) → h ≡ marked order k marks old → cond b (among order k (marks row)) h ≡ marked order k marks (cond b (Some row) old)
  cases-other k row true old h e = refl
  cases-other k row false old h e = e

  pub index_exchanged : (number : ℕ) (rows : List (ℕ × Row)) (row before : Row) (index new : List (K × ℕ)) → row_of rows number ≡ Some before → IsIndex order marks rows index → OtherMarks order (marks before) (marks row) number index new → IsIndex order marks (with_row rows number row) new
  index_exchanged number rows row before index new is was other = record {
    sorted = other.sorted;
    each = λ k n. other.each k n (λ e. was.each k n ∙ ap (marked order k marks) (subst (λ m. row_of rows m ≡ Some before) e is))
        ∙ cases-other k row (number == n) (row_of rows n) (has (entry_order order) index (k, n)) (was.each k n)
        ∙ ap (marked order k marks) (sym (row-replaced number n rows row before is));
  }
