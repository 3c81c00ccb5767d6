-- Rows with one of a given number among them, and rows under another next number.
use Rattle.std.proofs.Common.{◌≡◌, ℕ, zero, suc, ◌+◌, ◌<◌, ◌≤◌, ◌==◌, ◌&&◌, ◌||◌, Bool, true, false, cond, Option, Some, None, List, [], ◌∷◌, length, take, nat_lt, refl, sym, ap, ◌∙◌, arith, subst}
use Rattle.std.specs.List.{insert, list_all, list_any}
use Rattle.std.specs.declared.cmp.Ordering.{Ordering}
use Rattle.std.proofs.lemmas.Bool.{and_left, and_parts, eqb-true, eqb-false, ltb-true, ltb-false, lt-ltb, le-ltb, ne_eqb, or_parts}
use Rattle.std.proofs.lemmas.Bool.Decides.{nat_tests}
use Rattle.std.proofs.lemmas.List.{take_all}
use Rattle.dl_base.specs.declared.column.Column.{Column}
use Rattle.dl_base.specs.declared.value.LinkNo.{LinkNo}
use Rattle.dl_base.specs.declared.value.Row.{Row}
use Rattle.dl_pages.specs.Entries.{entry_order}
use Rattle.dl_pages.specs.Orders.{link_order}
use Rattle.dl_pages.specs.Points.{IsPartitionPoint}
use Rattle.dl_pages.specs.Sets.{has}
use Rattle.meaning_tables.specs.Tables.{Rise, row_of, with_row}
use Rattle.sql_table.specs.KeySeen.{Key}
use Rattle.sql_table.specs.Keys.{key_order, key_marks}
use Rattle.sql_table.specs.Marks.{IsIndex, IsKept, WithMarks, among, link_marks, marked}
use Rattle.sql_table.specs.Places.{IsPlace}
use Rattle.sql_table.specs.Placing.{with_placed}
use Rattle.sql_table.proofs.Numbers.{present}

flip : (m n : ℕ) → (m == n) ≡ (n == m)
flip m n = grind (arith, nat_tests)

none-some : {A : Type 0} (x : A) → Some x ≡ None → ⊥
none-some x e = cc e

-- where no row has the number, the row goes in at the point where smaller numbers end
pub placed_at : (number place : ℕ) (rows : List (ℕ × Row)) (row : Row) → row_of rows number ≡ None → IsPartitionPoint (λ r. nat_lt r.0 number) rows place → with_placed rows number row ≡ insert rows place (number, row)
placed_at number zero [] row none point = refl
placed_at number (suc place) [] row none point = refl
placed_at number zero (r ∷ rs) row none point = by (number == r.0) refl none
  where
    by : (b : Bool) → (number == r.0) ≡ b → cond b (Some r.1) (row_of rs number) ≡ None → cond b ((number, row) ∷ rs) (cond (nat_lt number r.0) ((number, row) ∷ r ∷ rs) (r ∷ with_placed rs number row)) ≡ (number, row) ∷ r ∷ rs
    by true e none = absurd (none-some r.1 none)
    by false e none =
        let least : number ≤ r.0 = ltb-false r.0 number (or_parts (nat_lt r.0 number) (list_any (λ r. nat_lt r.0 number) rs) point.rest).0 in
        let other = eqb-false number r.0 e in
        let less : number < r.0 = grind (arith, least, other) in
        rw (lt-ltb number r.0 less) refl
placed_at number (suc place) (r ∷ rs) row none point =
    let parts = and_parts (nat_lt r.0 number) (list_all (λ r. nat_lt r.0 number) (take place rs)) point.front in
    let more : r.0 < number = ltb-true r.0 number parts.0 in
    let other : (number == r.0) ≡ false = ne_eqb number r.0 (λ e. omega (arith, more, e)) in
    let past : nat_lt number r.0 ≡ false = le-ltb number r.0 (omega (arith, more)) in
    let none_later : row_of rs number ≡ None = sym (ap (λ b. cond b (Some r.1) (row_of rs number)) other) ∙ none in
    rw (other, past) (ap (λ (xs : List (ℕ × Row)). r ∷ xs) (placed_at number place rs row none_later (record { within = omega (arith, point.within); front = parts.1; rest = point.rest })))

under : (first below number : ℕ) (rows : List (ℕ × Row)) → Rise first below rows → number < first → row_of rows number ≡ None
under first below number [] rise less = refl
under first below number (r ∷ rs) rise less = rw (ne_eqb number r.0 (λ e. omega (arith, rise.0))) (under (r.0 + 1) below number rs rise.2 (omega (arith, rise.0)))

over-row : (first below number : ℕ) (rows : List (ℕ × Row)) (row : Row) → Rise first below rows → (row_of rows number ≡ None → ⊥) → with_row rows number row ≡ with_placed rows number row
over-row first below number [] row rise there = absurd (there refl)
over-row first below number (r ∷ rs) row rise there = by (number == r.0) refl there (over-row (r.0 + 1) below number rs row rise.2)
  where
    by : (b : Bool) → (number == r.0) ≡ b → (cond b (Some r.1) (row_of rs number) ≡ None → ⊥) → ((row_of rs number ≡ None → ⊥) → with_row rs number row ≡ with_placed rs number row)
        → cond b ((r.0, row) ∷ rs) (r ∷ with_row rs number row) ≡ cond b ((number, row) ∷ rs) (cond (nat_lt number r.0) ((number, row) ∷ r ∷ rs) (r ∷ with_placed rs number row))
    by true e there go = ap (λ (n : ℕ). (n, row) ∷ rs) (sym (eqb-true number r.0 e))
    by false e there go = rw (past (nat_lt number r.0) refl) (ap (λ (xs : List (ℕ × Row)). r ∷ xs) (go there))
      where
        past : (c : Bool) → nat_lt number r.0 ≡ c → nat_lt number r.0 ≡ false
        past true less = absurd (there (under (r.0 + 1) below number rs rise.2 (omega (arith, ltb-true number r.0 less))))
        past false less = less

-- where a row has the number, the row takes its place
pub placed_over : (below number place : ℕ) (rows : List (ℕ × Row)) (row : Row) → Rise 0 below rows → IsPlace rows number place → with_row rows number row ≡ with_placed rows number row
placed_over below number place rows row rise at = over-row 0 below number rows row rise (present rows number place at)

rise-placed : (first below number : ℕ) (rows : List (ℕ × Row)) (row : Row) → first ≤ number → number < below → Rise first below rows → Rise first below (with_placed rows number row)
rise-placed first below number [] row le lt rise = (le, lt, tt)
rise-placed first below number (r ∷ rs) row le lt rise = by (number == r.0) refl (nat_lt number r.0) refl (λ more. rise-placed (r.0 + 1) below number rs row more lt rise.2)
  where
    by : (b : Bool) → (number == r.0) ≡ b → (c : Bool) → nat_lt number r.0 ≡ c → (r.0 + 1 ≤ number → Rise (r.0 + 1) below (with_placed rs number row))
        → Rise first below (cond b ((number, row) ∷ rs) (cond c ((number, row) ∷ r ∷ rs) (r ∷ with_placed rs number row)))
    by true e c f go = (le, lt, subst (λ n. Rise (n + 1) below rs) (sym (eqb-true number r.0 e)) rise.2)
    by false e true f go = (le, lt, (omega (arith, ltb-true number r.0 f), rise.1, rise.2))
    by false e false f go =
        let least = ltb-false number r.0 f in
        let other = eqb-false number r.0 e in
        let more : r.0 < number = grind (arith, least, other) in
        (rise.0, rise.1, go (omega (arith, more)))

swapped : {A : Type 0} (a b : Bool) (x y z : A) → (a ≡ true → b ≡ true → ⊥) → cond a x (cond b y z) ≡ cond b y (cond a x z)
swapped true true x y z never = absurd (never refl refl)
swapped true false x y z never = refl
swapped false b x y z never = refl

row-placed : (rows : List (ℕ × Row)) (number : ℕ) (row : Row) (n : ℕ) → row_of (with_placed rows number row) n ≡ cond (number == n) (Some row) (row_of rows n)
row-placed [] number row n = ap (λ b. cond b (Some row) None) (flip n number)
row-placed (r ∷ rs) number row n = by (number == r.0) refl (nat_lt number r.0) (row-placed rs number row n)
  where
    first : cond (n == number) (Some row) (row_of (r ∷ rs) n) ≡ cond (number == n) (Some row) (row_of (r ∷ rs) n)
    first = ap (λ b. cond b (Some row) (row_of (r ∷ rs) n)) (flip n number)

    twice : (b : Bool) → cond b (Some row) (row_of rs n) ≡ cond b (Some row) (cond b (Some r.1) (row_of rs n))
    twice true = refl
    twice false = refl

    by : (b : Bool) → (number == r.0) ≡ b → (l : Bool) → row_of (with_placed rs number row) n ≡ cond (number == n) (Some row) (row_of rs n)
        → row_of (cond b ((number, row) ∷ rs) (cond l ((number, row) ∷ r ∷ rs) (r ∷ with_placed rs number row))) n ≡ cond (number == n) (Some row) (cond (n == r.0) (Some r.1) (row_of rs n))
    by true e l go =
        ap (λ b. cond b (Some row) (row_of rs n)) (flip n number)
        ∙ twice (number == n)
        ∙ ap (λ b. cond (number == n) (Some row) (cond b (Some r.1) (row_of rs n))) (flip number n ∙ ap (λ k. n == k) (eqb-true number r.0 e))
    by false e true go = first
    by false e false go =
        ap (λ (o : Option Row). cond (n == r.0) (Some r.1) o) go
        ∙ swapped (n == r.0) (number == n) (Some r.1) (Some row) (row_of rs n) (λ a b. eqb-false number r.0 e (eqb-true number n b ∙ eqb-true n r.0 a))

module _ {K : Type 0} (order : K → K → Ordering) (marks : Row → List K) where
  cases : (k : K) (row : Row) (b : Bool) (old : Option Row) (h : Bool) → (b ≡ true → old ≡ None) → h ≡ marked order k marks old → ((b && among order k (marks row)) || h) ≡ marked order k marks (cond b (Some row) old)
  cases k row true old h is e = rw (e ∙ ap (marked order k marks) (is refl)) (or-false (among order k (marks row)))
    where
      or-false : (a : Bool) → (a || false) ≡ a
      or-false true = refl
      or-false false = refl
  cases k row false old h is e = e

  index-placed : (number : ℕ) (rows : List (ℕ × Row)) (row : Row) (index new : List (K × ℕ)) → row_of rows number ≡ None → IsIndex order marks rows index → WithMarks order (marks row) number index new → IsIndex order marks (with_placed rows number row) new
  index-placed number rows row index new none was more = record {
    sorted = more.sorted;
    each = λ k n. more.each k n
        ∙ cases k row (number == n) (row_of rows n) (has (entry_order order) index (k, n)) (λ e. subst (λ m. row_of rows m ≡ None) (eqb-true number n e) none) (was.each k n)
        ∙ ap (marked order k marks) (sym (row-placed rows number row n));
  }

-- what a table keeps with one more row, of a number that none has
pub kept_placed : (columns : List Column) (next number : ℕ) (rows after : List (ℕ × Row)) (links new : List (LinkNo × ℕ)) (keys renewed : List (Key × ℕ)) (row : Row) (marks : List LinkNo) (own : List Key) → IsKept columns next rows links keys → number < next → row_of rows number ≡ None
    → marks ≡ link_marks columns row → WithMarks link_order marks number links new → own ≡ key_marks columns row → WithMarks key_order own number keys renewed → after ≡ with_placed rows number row → IsKept columns next after new renewed
kept_placed columns next number rows after links new keys renewed row marks own kept lt none is more are plus e =
    subst (λ rs. IsKept columns next rs new renewed) (sym e) (record {
      rise = rise-placed 0 next number rows row (omega arith) lt kept.rise;
      links = index-placed link_order (link_marks columns) number rows row links new none kept.links (subst (λ ms. WithMarks link_order ms number links new) is more);
      keys = index-placed key_order (key_marks columns) number rows row keys renewed none kept.keys (subst (λ ms. WithMarks key_order ms number keys renewed) are plus);
    })

-- the point where a test ends is the end of the list where all items pass it
pub all_at_end : {A : Type 0} (test : A → Bool) (xs : List A) (i : ℕ) → IsPartitionPoint test xs i → i ≡ length xs → list_all test xs ≡ true
all_at_end test xs i point is = ap (λ l. list_all test l) (sym (take_all i xs (omega (arith, is)))) ∙ point.front

pub not_all_before : {A : Type 0} (test : A → Bool) (xs : List A) (i : ℕ) → IsPartitionPoint test xs i → (i ≡ length xs → ⊥) → list_all test xs ≡ false
not_all_before test [] i point not_end = absurd (not_end (omega (arith, point.within)))
not_all_before test (x ∷ xs) zero point not_end = and_left (test x) (list_all test xs) (or_parts (test x) (list_any test xs) point.rest).0
not_all_before test (x ∷ xs) (suc i) point not_end =
    let parts = and_parts (test x) (list_all test (take i xs)) point.front in
    rw parts.0 (not_all_before test xs i (record { within = omega (arith, point.within); front = parts.1; rest = point.rest }) (λ e. not_end (ap suc e)))

rise-under : (first below next : ℕ) (rows : List (ℕ × Row)) → Rise first below rows → list_all (λ r. nat_lt r.0 next) rows ≡ true → Rise first next rows
rise-under first below next [] rise all = tt
rise-under first below next (r ∷ rs) rise all =
    let parts = and_parts (nat_lt r.0 next) (list_all (λ r. nat_lt r.0 next) rs) all in
    (rise.0, ltb-true r.0 next parts.0, rise-under (r.0 + 1) below next rs rise.2 parts.1)

-- what a table keeps under another next number
pub kept_under : (columns : List Column) (below next : ℕ) (rows : List (ℕ × Row)) (links : List (LinkNo × ℕ)) (keys : List (Key × ℕ)) → IsKept columns below rows links keys → list_all (λ r. nat_lt r.0 next) rows ≡ true → IsKept columns next rows links keys
kept_under columns below next rows links keys kept all = record { rise = rise-under 0 below next rows kept.rise all; links = kept.links; keys = kept.keys }
