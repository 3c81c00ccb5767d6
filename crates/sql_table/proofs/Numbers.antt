-- Rows whose numbers rise.
use Rattle.std.proofs.Common.{◌≡◌, ℕ, zero, suc, ◌+◌, ◌<◌, ◌≤◌, ◌==◌, ◌&&◌, ◌||◌, Bool, true, false, cond, Option, Some, None, List, [], ◌∷◌, ◌++◌, length, take, get_or, set, refl, sym, ap, ◌∙◌, arith, nat_lt, is_some}
use Rattle.std.specs.List.{remove, slice_get, list_all, list_any}
use Rattle.std.specs.Option.{option_map}
use Rattle.std.proofs.lemmas.Bool.{eq-eqb, ne_eqb, le-ltb}
use Rattle.std.proofs.lemmas.Bool.Decides.{nat_tests}
use Rattle.std.proofs.lemmas.Option.{slice_get_within, get_or_from_slice_get}
use Rattle.dl_base.specs.declared.value.Row.{Row}
use Rattle.dl_pages.specs.Points.{IsPartitioned, IsPartitionPoint}
use Rattle.meaning_tables.specs.Tables.{Rise, row_of, with_row, without_row}
use Rattle.sql_table.specs.Places.{IsPlace}

-- each number is from the first one on
number-from : (first below : ℕ) (rows : List (ℕ × Row)) (i : ℕ) (d : ℕ × Row) → Rise first below rows → i < length rows → first ≤ (get_or rows i d).0
number-from first below [] i d rise within = absurd (omega arith)
number-from first below (r ∷ rs) zero d rise within = rise.0
number-from first below (r ∷ rs) (suc i) d rise within = omega (arith, rise.0, number-from (r.0 + 1) below rs i d rise.2 (omega arith))

-- what the place of a number says, one part after the other
found : (first below number : ℕ) (rows : List (ℕ × Row)) (i : ℕ) (d : ℕ × Row) → Rise first below rows → i < length rows → (get_or rows i d).0 ≡ number → row_of rows number ≡ option_map (λ r. r.1) (slice_get rows i)
found first below number [] i d rise within here = absurd (omega arith)
found first below number (r ∷ rs) zero d rise within here = rw (eq-eqb number r.0 (sym here)) refl
found first below number (r ∷ rs) (suc i) d rise within here =
    rw (ne_eqb number r.0 (λ e. omega (arith, e, here, number-from (r.0 + 1) below rs i d rise.2 (omega arith)))) (found (r.0 + 1) below number rs i d rise.2 (omega arith) here)

replaced : (first below number : ℕ) (rows : List (ℕ × Row)) (i : ℕ) (d : ℕ × Row) → Rise first below rows → i < length rows → (get_or rows i d).0 ≡ number → (row : Row) → with_row rows number row ≡ set rows i (number, row)
replaced first below number [] i d rise within here row = absurd (omega arith)
replaced first below number (r ∷ rs) zero d rise within here row = rw (eq-eqb number r.0 (sym here)) (ap (λ n. (n, row) ∷ rs) here)
replaced first below number (r ∷ rs) (suc i) d rise within here row =
    rw (ne_eqb number r.0 (λ e. omega (arith, e, here, number-from (r.0 + 1) below rs i d rise.2 (omega arith)))) (ap (λ xs. r ∷ xs) (replaced (r.0 + 1) below number rs i d rise.2 (omega arith) here row))

removed : (first below number : ℕ) (rows : List (ℕ × Row)) (i : ℕ) (d : ℕ × Row) → Rise first below rows → i < length rows → (get_or rows i d).0 ≡ number → without_row rows number ≡ remove rows i
removed first below number [] i d rise within here = absurd (omega arith)
removed first below number (r ∷ rs) zero d rise within here = rw (eq-eqb number r.0 (sym here)) refl
removed first below number (r ∷ rs) (suc i) d rise within here =
    rw (ne_eqb number r.0 (λ e. omega (arith, e, here, number-from (r.0 + 1) below rs i d rise.2 (omega arith)))) (ap (λ xs. r ∷ xs) (removed (r.0 + 1) below number rs i d rise.2 (omega arith) here))

-- a row with the number is the one of the number
pub place-of_number : (below number : ℕ) (rows : List (ℕ × Row)) (i : ℕ) (d : ℕ × Row) → Rise 0 below rows → i < length rows → (get_or rows i d).0 ≡ number → IsPlace rows number i
place-of_number below number rows i d rise within here = record {
  within = within;
  found = found 0 below number rows i d rise within here;
  replaced = replaced 0 below number rows i d rise within here;
  removed = removed 0 below number rows i d rise within here;
}

-- what the point of a number asks
none-below : (first below number : ℕ) (rows : List (ℕ × Row)) → number ≤ first → Rise first below rows → list_any (λ r. nat_lt r.0 number) rows ≡ false
none-below first below number [] le rise = refl
none-below first below number (r ∷ rs) le rise = rw (le-ltb r.0 number (omega (arith, rise.0))) (none-below (r.0 + 1) below number rs (omega (arith, rise.0)) rise.2)

pub falls : (first below number : ℕ) (rows : List (ℕ × Row)) → Rise first below rows → IsPartitioned (λ r. nat_lt r.0 number) rows
falls first below number [] rise = tt
falls first below number (r ∷ rs) rise = ((λ e. none-below (r.0 + 1) below number rs (omega (arith, not-less r.0 e)) rise.2), falls (r.0 + 1) below number rs rise.2)
  where
    not-less : (n : ℕ) → nat_lt n number ≡ false → number ≤ n
    not-less n e = grind (arith, nat_tests)

-- what has been found at a point
pub hit : (below number place : ℕ) (rows : List (ℕ × Row)) (item : ℕ × Row) → Rise 0 below rows → slice_get rows place ≡ Some item → item.0 ≡ number → IsPlace rows number place
hit below number place rows item rise is same =
    place-of_number below number rows place item rise (slice_get_within rows place item is) (ap (λ r. r.0) (get_or_from_slice_get rows place item item is) ∙ same)

none-of : (first below number : ℕ) (rows : List (ℕ × Row)) → Rise first below rows → number < first → row_of rows number ≡ None
none-of first below number [] rise less = refl
none-of first below number (r ∷ rs) rise less = rw (ne_eqb number r.0 (λ e. omega (arith, rise.0))) (none-of (r.0 + 1) below number rs rise.2 (omega (arith, rise.0)))

-- what has been missed at a point
pub miss : (first below number place : ℕ) (rows : List (ℕ × Row)) → Rise first below rows → IsPartitionPoint (λ r. nat_lt r.0 number) rows place → ((item : ℕ × Row) → slice_get rows place ≡ Some item → item.0 ≡ number → ⊥) → row_of rows number ≡ None
miss first below number place [] rise point other = refl
miss first below number zero (r ∷ rs) rise point other =
    let above : number < r.0 = above-by r.0 (first-fails (nat_lt r.0 number) (list_any (λ r. nat_lt r.0 number) rs) point.rest) (other r refl) in
    rw (ne_eqb number r.0 (λ e. omega arith)) (none-of (r.0 + 1) below number rs rise.2 (omega arith))
  where
    first-fails : (a b : Bool) → (a || b) ≡ false → a ≡ false
    first-fails true b e = cc e
    first-fails false b e = refl

    above-by : (n : ℕ) → nat_lt n number ≡ false → (n ≡ number → ⊥) → number < n
    above-by n e ne = grind (arith, nat_tests)
miss first below number (suc place) (r ∷ rs) rise point other =
    let under : r.0 < number = under-by r.0 (first-passes (nat_lt r.0 number) (list_all (λ r. nat_lt r.0 number) (take place rs)) point.front) in
    rw (ne_eqb number r.0 (λ e. omega arith)) (miss (r.0 + 1) below number place rs rise.2 (record { within = omega (arith, point.within); front = rest-pass (nat_lt r.0 number) (list_all (λ r. nat_lt r.0 number) (take place rs)) point.front; rest = point.rest }) (λ item is same. other item is same))
  where
    first-passes : (a b : Bool) → (a && b) ≡ true → a ≡ true
    first-passes true b e = refl
    first-passes false b e = cc e

    rest-pass : (a b : Bool) → (a && b) ≡ true → b ≡ true
    rest-pass true b e = e
    rest-pass false b e = cc e

    under-by : (n : ℕ) → nat_lt n number ≡ true → n < number
    under-by n e = grind (arith, nat_tests)

-- numbers that rise from one number on rise from a smaller one on
rise-from : (first least below : ℕ) (rows : List (ℕ × Row)) → least ≤ first → Rise first below rows → Rise least below rows
rise-from first least below [] le rise = tt
rise-from first least below (r ∷ rs) le rise = (omega (arith, rise.0), rise.1, rise.2)

-- numbers rise where one more row has the next number
pub rise-inserted : (first below : ℕ) (rows : List (ℕ × Row)) (row : Row) → first ≤ below → Rise first below rows → Rise first (below + 1) (rows ++ (below, row) ∷ [])
rise-inserted first below [] row le rise = (le, omega arith, tt)
rise-inserted first below (r ∷ rs) row le rise = (rise.0, omega (arith, rise.1), rise-inserted (r.0 + 1) below rs row (omega (arith, rise.1)) rise.2)

-- numbers rise where a row has another in its place
pub rise-replaced : (first below number : ℕ) (rows : List (ℕ × Row)) (row : Row) → Rise first below rows → Rise first below (with_row rows number row)
rise-replaced first below number [] row rise = tt
rise-replaced first below number (r ∷ rs) row rise =
    elim (number == r.0) as (λ b. Rise first below (cond b ((r.0, row) ∷ rs) (r ∷ with_row rs number row))) [
      | true ↦ rise
      | false ↦ (rise.0, rise.1, rise-replaced (r.0 + 1) below number rs row rise.2)
    ]

-- numbers rise where a row is taken out
pub rise-removed : (first below number : ℕ) (rows : List (ℕ × Row)) → Rise first below rows → Rise first below (without_row rows number)
rise-removed first below number [] rise = tt
rise-removed first below number (r ∷ rs) rise =
    elim (number == r.0) as (λ b. Rise first below (cond b rs (r ∷ without_row rs number))) [
      | true ↦ rise-from (r.0 + 1) first below rs (omega (arith, rise.0)) rise.2
      | false ↦ (rise.0, rise.1, rise-removed (r.0 + 1) below number rs rise.2)
    ]

none-removed-by : (b : Bool) (r : ℕ × Row) (rs left : List (ℕ × Row)) (found : Option Row) → (found ≡ None → left ≡ rs) → cond b (Some r.1) found ≡ None → cond b rs (r ∷ left) ≡ r ∷ rs
none-removed-by true r rs left found rest none = absurd (Some-None none)
  where
    Some-None : {X : Type 0} {x : X} → Some x ≡ None → ⊥
    Some-None e = cc e
none-removed-by false r rs left found rest none = ap (λ xs. r ∷ xs) (rest none)

-- where no row has a number, none is taken out
pub none-removed : (number : ℕ) (rows : List (ℕ × Row)) → row_of rows number ≡ None → without_row rows number ≡ rows
none-removed number [] none = refl
none-removed number (r ∷ rs) none = none-removed-by (number == r.0) r rs (without_row rs number) (row_of rs number) (none-removed number rs) none

-- a place has a row
some-at : (rows : List (ℕ × Row)) (place : ℕ) → place < length rows → option_map (λ r. r.1) (slice_get rows place) ≡ None → ⊥
some-at [] place within none = omega arith
some-at (r ∷ rs) zero within none = cc none
some-at (r ∷ rs) (suc place) within none = some-at rs place (omega arith) none

pub present : (rows : List (ℕ × Row)) (number place : ℕ) → IsPlace rows number place → row_of rows number ≡ None → ⊥
present rows number place at none = some-at rows place at.within (sym at.found ∙ none)

some-is : (rows : List (ℕ × Row)) (place : ℕ) → place < length rows → is_some (option_map (λ r. r.1) (slice_get rows place)) ≡ true
some-is [] place within = absurd (omega arith)
some-is (r ∷ rs) zero within = refl
some-is (r ∷ rs) (suc place) within = some-is rs place (omega arith)

-- a number that stands at a place is there
pub is_there : (rows : List (ℕ × Row)) (number place : ℕ) → IsPlace rows number place → true ≡ is_some (row_of rows number)
is_there rows number place at = sym (ap is_some at.found ∙ some-is rows place at.within)
