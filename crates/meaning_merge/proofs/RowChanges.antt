-- The changes from one list of rows to another lead from the one to the other.
use Rattle.std.proofs.Common.{◌≡◌, ℕ, ◌+◌, ◌==◌, ◌<◌, ◌≤◌, ◌&&◌, ◌||◌, List, [], ◌∷◌, Bool, true, false, not, cond, map, nat_le, nat_lt, Option, Some, None, is_some, refl, sym, ◌∙◌, ap, subst, arith}
use Rattle.std.specs.List.{filter, list_all}
use Rattle.std.proofs.lemmas.Bool.Decides.{nat_tests}
use Rattle.dl_base.specs.declared.column.Column.{Column}
use Rattle.dl_base.specs.declared.value.Row.{Row}
use Rattle.dl_base.specs.declared.value.Value.{Value}
use Rattle.dl_codec.specs.declared.rows.RowChange.{RowChange}
use Rattle.meaning_areas.specs.Commits.{put_row, by_values, with_row_changes, rising, changed_rows}
use Rattle.meaning_areas.specs.Same.{same_row}
use Rattle.meaning_areas.proofs.Equal.{row-decides}
use Rattle.meaning_settling.proofs.KeyedLaws.{false_true}
use Rattle.meaning_tables.specs.Tables.{Rise, row_of, without_row}
use Rattle.meaning_tables.proofs.Numbered.{rise-from}
use Rattle.meaning_merge.specs.Merging.{row_change, is_changed, removed, is_gone, put_removed, with_removed, row_changes}

-- numbers

same : (a b : ℕ) → (a == b) ≡ true → a ≡ b
same a b e = grind (arith, nat_tests)

self : (a : ℕ) → (a == a) ≡ true
self a = grind (arith, nat_tests)

other : (a b : ℕ) → (a ≡ b → ⊥) → (a == b) ≡ false
other a b e = grind (arith, nat_tests)

apart : (a b : ℕ) → (a == b) ≡ false → a ≡ b → ⊥
apart a b e is = false_true (sym e ∙ ap (λ x. a == x) (sym is) ∙ self a)

less : (a b : ℕ) → nat_lt a b ≡ true → a < b
less a b e = grind (arith, nat_tests)

not_less : (a b : ℕ) → nat_lt a b ≡ false → b ≤ a
not_less a b e = grind (arith, nat_tests)

is_less : (a b : ℕ) → a < b → nat_lt a b ≡ true
is_less a b e = grind (arith, nat_tests)

is_most : (a b : ℕ) → a ≤ b → nat_le a b ≡ true
is_most a b e = grind (arith, nat_tests)

most : (a b : ℕ) → nat_le a b ≡ true → a ≤ b
most a b e = grind (arith, nat_tests)

both : (a b : Bool) → (a && b) ≡ true → (a ≡ true) × (b ≡ true)
both true b e = (refl, e)
both false b e = absurd (false_true e)

two : (a b : Bool) → a ≡ true → b ≡ true → (a && b) ≡ true
two true b e f = f
two false b e f = absurd (false_true e)

neither : (a b : Bool) → (a || b) ≡ false → (a ≡ false) × (b ≡ false)
neither true b e = absurd (false_true (sym e))
neither false b e = (refl, e)

some_same : (x y : Row) → Some x ≡ Some y → x ≡ y
some_same x y e = cc

none_some : (x : Row) → None ≡ Some x → ⊥
none_some x e = cc

-- rows that rise

pub below-none : (first below : ℕ) (rows : List (ℕ × Row)) (n : ℕ) → Rise first below rows → n < first → row_of rows n ≡ None
below-none first below [] n rise lt = refl
below-none first below (r ∷ rs) n rise lt =
    let le = rise.0 in
    ap (λ b. cond b (Some r.1) (row_of rs n)) (other n r.0 (λ e. omega (arith, le, lt, e))) ∙ below-none (r.0 + 1) below rs n rise.2 (omega (arith, le, lt))

some-from : (first below : ℕ) (rows : List (ℕ × Row)) (n : ℕ) (row : Row) → Rise first below rows → row_of rows n ≡ Some row → first ≤ n
some-from first below rows n row rise is = by (nat_le first n) refl
  where
    under : nat_le first n ≡ false → n < first
    under e = grind (arith, nat_tests)

    by : (b : Bool) → nat_le first n ≡ b → first ≤ n
    by true e = most first n e
    by false e = absurd (none_some row (sym (below-none first below rows n rise (under e)) ∙ is))

rise-below : (first below more : ℕ) (rows : List (ℕ × Row)) → below ≤ more → Rise first below rows → Rise first more rows
rise-below first below more [] le rise = tt
rise-below first below more (r ∷ rs) le rise = let lt = rise.1 in (rise.0, omega (arith, le, lt), rise-below (r.0 + 1) below more rs le rise.2)

-- lists that rise and have the same rows are one list
pub same-rows : (first below : ℕ) (xs ys : List (ℕ × Row)) → Rise first below xs → Rise first below ys → ((n : ℕ) → row_of xs n ≡ row_of ys n) → xs ≡ ys
same-rows first below [] [] rise rise_y each = refl
same-rows first below [] (y ∷ ys) rise rise_y each = absurd (none_some y.1 (each y.0 ∙ ap (λ b. cond b (Some y.1) (row_of ys y.0)) (self y.0)))
same-rows first below (x ∷ xs) [] rise rise_y each = absurd (none_some x.1 (sym (each x.0) ∙ ap (λ b. cond b (Some x.1) (row_of xs x.0)) (self x.0)))
same-rows first below (x ∷ xs) (y ∷ ys) rise rise_y each = by (x.0 == y.0) refl (λ h. same-rows (x.0 + 1) below xs ys rise.2 h)
  where
    here_x : row_of (x ∷ xs) x.0 ≡ Some x.1
    here_x = ap (λ b. cond b (Some x.1) (row_of xs x.0)) (self x.0)

    here_y : row_of (y ∷ ys) y.0 ≡ Some y.1
    here_y = ap (λ b. cond b (Some y.1) (row_of ys y.0)) (self y.0)

    no_less : (x.0 == y.0) ≡ false → ⊥
    no_less e =
        let behind_y = some-from (y.0 + 1) below ys x.0 x.1 rise_y.2 (ap (λ b. cond b (Some y.1) (row_of ys x.0)) (sym e) ∙ sym (each x.0) ∙ here_x) in
        let behind_x = some-from (x.0 + 1) below xs y.0 y.1 rise.2 (ap (λ b. cond b (Some x.1) (row_of xs y.0)) (sym (other y.0 x.0 (λ is. apart x.0 y.0 e (sym is)))) ∙ each y.0 ∙ here_y) in
        omega (arith, behind_x, behind_y)

    by : (b : Bool) → (x.0 == y.0) ≡ b → (Rise (x.0 + 1) below ys → ((n : ℕ) → row_of xs n ≡ row_of ys n) → xs ≡ ys) → x ∷ xs ≡ y ∷ ys
    by false e go = absurd (no_less e)
    by true e go =
        let number : x.0 ≡ y.0 = same x.0 y.0 e in
        let row : x.1 ≡ y.1 = some_same x.1 y.1 (sym here_x ∙ each x.0 ∙ ap (λ b. cond b (Some y.1) (row_of ys x.0)) e) in
        let rest : xs ≡ ys = go (subst (λ n. Rise (n + 1) below ys) (sym number) rise_y.2) (λ n. after n (n == x.0) refl number) in
        λ i. (number i, row i) ∷ rest i
      where
        after : (n : ℕ) (b : Bool) → (n == x.0) ≡ b → x.0 ≡ y.0 → row_of xs n ≡ row_of ys n
        after n true at number =
            let is : n ≡ x.0 = same n x.0 at in
            below-none (x.0 + 1) below xs n rise.2 (omega (arith, is)) ∙ sym (below-none (y.0 + 1) below ys n rise_y.2 (omega (arith, is, number)))
        after n false at number =
            ap (λ b. cond b (Some x.1) (row_of xs n)) (sym at) ∙ each n
            ∙ ap (λ b. cond b (Some y.1) (row_of ys n)) (ap (λ m. n == m) (sym number) ∙ at)

-- one change

swapped : {A : Type 0} (a b : Bool) (x y z : A) → (a ≡ true → b ≡ true → ⊥) → cond a x (cond b y z) ≡ cond b y (cond a x z)
swapped true true x y z never = absurd (never refl refl)
swapped true false x y z never = refl
swapped false b x y z never = refl

pub put-at : (rows : List (ℕ × Row)) (m : ℕ) (row : Row) (n : ℕ) → row_of (put_row rows m row) n ≡ cond (n == m) (Some row) (row_of rows n)
put-at [] m row n = refl
put-at (r ∷ rs) m row n = by (m == r.0) refl (nat_lt m r.0) (put-at rs m row n)
  where
    twice : (b : Bool) → cond b (Some row) (row_of rs n) ≡ cond b (Some row) (cond b (Some r.1) (row_of rs n))
    twice true = refl
    twice false = refl

    by : (b : Bool) → (m == r.0) ≡ b → (l : Bool) → row_of (put_row rs m row) n ≡ cond (n == m) (Some row) (row_of rs n)
        → row_of (cond b ((m, row) ∷ rs) (cond l ((m, row) ∷ r ∷ rs) (r ∷ put_row rs m row))) n ≡ cond (n == m) (Some row) (cond (n == r.0) (Some r.1) (row_of rs n))
    by true e l go = twice (n == m) ∙ ap (λ k. cond (n == m) (Some row) (cond (n == k) (Some r.1) (row_of rs n))) (same m r.0 e)
    by false e true go = refl
    by false e false go =
        ap (λ (o : Option Row). cond (n == r.0) (Some r.1) o) go
        ∙ swapped (n == r.0) (n == m) (Some r.1) (Some row) (row_of rs n) (λ a b. apart m r.0 e (sym (same n m b) ∙ same n r.0 a))

pub without-at : (first below : ℕ) (rows : List (ℕ × Row)) (m n : ℕ) → Rise first below rows → row_of (without_row rows m) n ≡ cond (n == m) None (row_of rows n)
without-at first below [] m n rise = alike (n == m) None
  where
    alike : (b : Bool) (o : Option Row) → o ≡ cond b o o
    alike true o = refl
    alike false o = refl
without-at first below (r ∷ rs) m n rise = by (m == r.0) refl (without-at (r.0 + 1) below rs m n rise.2)
  where
    gone : (b : Bool) → (n == m) ≡ b → m ≡ r.0 → row_of rs n ≡ cond b None (cond b (Some r.1) (row_of rs n))
    gone true at is = let n_is : n ≡ m = same n m at in below-none (r.0 + 1) below rs n rise.2 (omega (arith, n_is, is))
    gone false at is = refl

    by : (b : Bool) → (m == r.0) ≡ b → row_of (without_row rs m) n ≡ cond (n == m) None (row_of rs n) → row_of (cond b rs (r ∷ without_row rs m)) n ≡ cond (n == m) None (cond (n == r.0) (Some r.1) (row_of rs n))
    by true e go = gone (n == m) refl (same m r.0 e) ∙ ap (λ k. cond (n == m) None (cond (n == k) (Some r.1) (row_of rs n))) (same m r.0 e)
    by false e go =
        ap (λ (o : Option Row). cond (n == r.0) (Some r.1) o) go
        ∙ swapped (n == r.0) (n == m) (Some r.1) None (row_of rs n) (λ a b. apart m r.0 e (sym (same n m b) ∙ same n r.0 a))

put-rise : (first below : ℕ) (rows : List (ℕ × Row)) (m : ℕ) (row : Row) → first ≤ m → m < below → Rise first below rows → Rise first below (put_row rows m row)
put-rise first below [] m row le lt rise = (le, lt, tt)
put-rise first below (r ∷ rs) m row le lt rise = by (m == r.0) refl (nat_lt m r.0) refl (λ h. put-rise (r.0 + 1) below rs m row h lt rise.2)
  where
    by : (b : Bool) → (m == r.0) ≡ b → (l : Bool) → nat_lt m r.0 ≡ l → (r.0 + 1 ≤ m → Rise (r.0 + 1) below (put_row rs m row)) → Rise first below (cond b ((m, row) ∷ rs) (cond l ((m, row) ∷ r ∷ rs) (r ∷ put_row rs m row)))
    by true e l f go = (le, lt, subst (λ n. Rise (n + 1) below rs) (sym (same m r.0 e)) rise.2)
    by false e true f go = let under = less m r.0 f in (le, lt, (omega (arith, under), rise.1, rise.2))
    by false e false f go = let over = not_less m r.0 f in let unlike = apart m r.0 e in (rise.0, rise.1, go (grind (arith, over, unlike)))

without-rise : (first below : ℕ) (rows : List (ℕ × Row)) (m : ℕ) → Rise first below rows → Rise first below (without_row rows m)
without-rise first below [] m rise = tt
without-rise first below (r ∷ rs) m rise = by (m == r.0) (without-rise (r.0 + 1) below rs m rise.2)
  where
    by : (b : Bool) → Rise (r.0 + 1) below (without_row rs m) → Rise first below (cond b rs (r ∷ without_row rs m))
    by true go = let le = rise.0 in rise-from (r.0 + 1) first below rs (omega (arith, le)) rise.2
    by false go = (rise.0, rise.1, go)

-- all changes: the row of a number is that of the last change of this number

abbrev row_by : Option (List Value) → Option Row
row_by None = None
row_by (Some vs) = Some (record { values = vs })

abbrev after_at : List RowChange → ℕ → Option Row → Option Row
after_at [] n o = o
after_at (c ∷ cs) n o = after_at cs n (cond (n == c.number) (row_by c.values) o)

abbrev AllBelow : ℕ → List RowChange → Type 0
AllBelow below [] = Unit {0}
AllBelow below (c ∷ cs) = (c.number < below) × AllBelow below cs

one-at : (below : ℕ) (rows : List (ℕ × Row)) (m : ℕ) (o : Option (List Value)) (n : ℕ) → Rise 0 below rows → row_of (by_values rows m o) n ≡ cond (n == m) (row_by o) (row_of rows n)
one-at below rows m None n rise = without-at 0 below rows m n rise
one-at below rows m (Some vs) n rise = put-at rows m (record { values = vs }) n

one-rise : (below : ℕ) (rows : List (ℕ × Row)) (m : ℕ) (o : Option (List Value)) → m < below → Rise 0 below rows → Rise 0 below (by_values rows m o)
one-rise below rows m None lt rise = without-rise 0 below rows m rise
one-rise below rows m (Some vs) lt rise = put-rise 0 below rows m (record { values = vs }) (omega arith) lt rise

changes-at : (below : ℕ) (rows : List (ℕ × Row)) (made : List RowChange) (n : ℕ) → Rise 0 below rows → AllBelow below made → row_of (with_row_changes rows made) n ≡ after_at made n (row_of rows n)
changes-at below rows [] n rise all = refl
changes-at below rows (c ∷ cs) n rise all =
    changes-at below (by_values rows c.number c.values) cs n (one-rise below rows c.number c.values all.0 rise) all.1
    ∙ ap (after_at cs n) (one-at below rows c.number c.values n rise)

changes-rise : (below : ℕ) (rows : List (ℕ × Row)) (made : List RowChange) → Rise 0 below rows → AllBelow below made → Rise 0 below (with_row_changes rows made)
changes-rise below rows [] rise all = rise
changes-rise below rows (c ∷ cs) rise all = changes-rise below (by_values rows c.number c.values) cs (one-rise below rows c.number c.values all.0 rise) all.1

-- changes that say of their numbers what a list of rows has there

abbrev has_change : List RowChange → ℕ → Bool
has_change [] n = false
has_change (c ∷ cs) n = (n == c.number) || has_change cs n

abbrev Told : List (ℕ × Row) → List RowChange → Type 0
Told now [] = Unit {0}
Told now (c ∷ cs) = (row_by c.values ≡ row_of now c.number) × Told now cs

told-at : (now : List (ℕ × Row)) (made : List RowChange) (n : ℕ) (o : Option Row) → Told now made → after_at made n o ≡ cond (has_change made n) (row_of now n) o
told-at now [] n o told = refl
told-at now (c ∷ cs) n o told = told-at now cs n (cond (n == c.number) (row_by c.values) o) told.1 ∙ by (n == c.number) refl (has_change cs n)
  where
    by : (b : Bool) → (n == c.number) ≡ b → (h : Bool) → cond h (row_of now n) (cond b (row_by c.values) o) ≡ cond (b || h) (row_of now n) o
    by true e true = refl
    by true e false = told.0 ∙ ap (row_of now) (sym (same n c.number e))
    by false e h = refl

abbrev numbers_of : List RowChange → List ℕ
numbers_of made = map (λ c. c.number) made

rising-from : (first least : ℕ) (ns : List ℕ) → least ≤ first → rising first ns ≡ true → rising least ns ≡ true
rising-from first least [] le e = refl
rising-from first least (n ∷ ns) le e =
    let one = both (nat_le first n) (rising (n + 1) ns) e in
    let at = most first n one.0 in
    two (nat_le least n) (rising (n + 1) ns) (is_most least n (omega (arith, le, at))) one.1

-- the changed rows and those made

module _ (was now : List (ℕ × Row)) where
  abbrev is_new : ℕ × Row → Bool
  is_new r = is_changed (row_of was r.0) r

  abbrev new_at : ℕ → Option Row → Bool
  new_at n None = false
  new_at n (Some row) = is_changed (row_of was n) (n, row)

  abbrev changed_of : List (ℕ × Row) → List RowChange
  changed_of rows = map row_change (filter is_new rows)

  changed-has : (first below : ℕ) (rows : List (ℕ × Row)) (n : ℕ) → Rise first below rows → has_change (changed_of rows) n ≡ new_at n (row_of rows n)
  changed-has first below [] n rise = refl
  changed-has first below (r ∷ rs) n rise = by (is_new r) refl (n == r.0) refl (changed-has (r.0 + 1) below rs n rise.2)
    where
      none : n ≡ r.0 → row_of rs n ≡ None
      none is = below-none (r.0 + 1) below rs n rise.2 (omega (arith, is))

      by : (b : Bool) → is_new r ≡ b → (a : Bool) → (n == r.0) ≡ a → has_change (changed_of rs) n ≡ new_at n (row_of rs n)
          → has_change (map row_change (cond b (r ∷ filter is_new rs) (filter is_new rs))) n ≡ new_at n (cond a (Some r.1) (row_of rs n))
      by true e true at go = ap (λ x. x || has_change (changed_of rs) n) at ∙ sym (ap (λ m. is_changed (row_of was m) (m, r.1)) (same n r.0 at) ∙ e)
      by true e false at go = ap (λ x. x || has_change (changed_of rs) n) at ∙ go
      by false e true at go = go ∙ ap (new_at n) (none (same n r.0 at)) ∙ sym (ap (λ m. is_changed (row_of was m) (m, r.1)) (same n r.0 at) ∙ e)
      by false e false at go = go

  changed-told : (first below : ℕ) (rows : List (ℕ × Row)) → Rise first below rows → ((n : ℕ) (row : Row) → row_of rows n ≡ Some row → row_of now n ≡ Some row) → Told now (changed_of rows)
  changed-told first below [] rise of = tt
  changed-told first below (r ∷ rs) rise of =
      by (is_new r) (sym (of r.0 r.1 (ap (λ b. cond b (Some r.1) (row_of rs r.0)) (self r.0))))
      (changed-told (r.0 + 1) below rs rise.2 (λ n row is. of n row (ap (λ b. cond b (Some r.1) (row_of rs n)) (later n row is) ∙ is)))
    where
      later : (n : ℕ) (row : Row) → row_of rs n ≡ Some row → (n == r.0) ≡ false
      later n row is = let from = some-from (r.0 + 1) below rs n row rise.2 is in other n r.0 (λ e. omega (arith, from, e))

      by : (b : Bool) → Some r.1 ≡ row_of now r.0 → Told now (changed_of rs) → Told now (map row_change (cond b (r ∷ filter is_new rs) (filter is_new rs)))
      by true e go = (e, go)
      by false e go = go

  changed-below : (first below : ℕ) (rows : List (ℕ × Row)) → Rise first below rows → AllBelow below (changed_of rows)
  changed-below first below [] rise = tt
  changed-below first below (r ∷ rs) rise = by (is_new r) (changed-below (r.0 + 1) below rs rise.2)
    where
      by : (b : Bool) → AllBelow below (changed_of rs) → AllBelow below (map row_change (cond b (r ∷ filter is_new rs) (filter is_new rs)))
      by true go = (rise.1, go)
      by false go = go

  changed-rising : (first below : ℕ) (rows : List (ℕ × Row)) → Rise first below rows → rising first (numbers_of (changed_of rows)) ≡ true
  changed-rising first below [] rise = refl
  changed-rising first below (r ∷ rs) rise = by (is_new r) (changed-rising (r.0 + 1) below rs rise.2)
    where
      by : (b : Bool) → rising (r.0 + 1) (numbers_of (changed_of rs)) ≡ true → rising first (numbers_of (map row_change (cond b (r ∷ filter is_new rs) (filter is_new rs)))) ≡ true
      by true go = two (nat_le first r.0) (rising (r.0 + 1) (numbers_of (changed_of rs))) (is_most first r.0 rise.0) go
      by false go = let le = rise.0 in rising-from (r.0 + 1) first (numbers_of (changed_of rs)) (omega (arith, le)) go

-- a removed row

removed-has : (m : ℕ) (made : List RowChange) (n : ℕ) → has_change (put_removed m made) n ≡ ((n == m) || has_change made n)
removed-has m [] n = refl
removed-has m (c ∷ cs) n = by (nat_lt m c.number) (removed-has m cs n)
  where
    behind : (a b x : Bool) → (a || (b || x)) ≡ (b || (a || x))
    behind true true x = refl
    behind true false x = refl
    behind false b x = refl

    by : (l : Bool) → has_change (put_removed m cs) n ≡ ((n == m) || has_change cs n) → has_change (cond l (removed m ∷ c ∷ cs) (c ∷ put_removed m cs)) n ≡ ((n == m) || ((n == c.number) || has_change cs n))
    by true go = refl
    by false go = ap (λ x. (n == c.number) || x) go ∙ behind (n == c.number) (n == m) (has_change cs n)

removed-told : (now : List (ℕ × Row)) (m : ℕ) (made : List RowChange) → row_of now m ≡ None → Told now made → Told now (put_removed m made)
removed-told now m [] none told = (sym none, tt)
removed-told now m (c ∷ cs) none told = by (nat_lt m c.number) (removed-told now m cs none told.1)
  where
    by : (l : Bool) → Told now (put_removed m cs) → Told now (cond l (removed m ∷ c ∷ cs) (c ∷ put_removed m cs))
    by true go = (sym none, told)
    by false go = (told.0, go)

removed-below : (below m : ℕ) (made : List RowChange) → m < below → AllBelow below made → AllBelow below (put_removed m made)
removed-below below m [] lt all = (lt, tt)
removed-below below m (c ∷ cs) lt all = by (nat_lt m c.number) (removed-below below m cs lt all.1)
  where
    by : (l : Bool) → AllBelow below (put_removed m cs) → AllBelow below (cond l (removed m ∷ c ∷ cs) (c ∷ put_removed m cs))
    by true go = (lt, all)
    by false go = (all.0, go)

removed-rising : (least m : ℕ) (made : List RowChange) → least ≤ m → has_change made m ≡ false → rising least (numbers_of made) ≡ true → rising least (numbers_of (put_removed m made)) ≡ true
removed-rising least m [] le new e = two (nat_le least m) true (is_most least m le) refl
removed-rising least m (c ∷ cs) le new e = by (nat_lt m c.number) refl (λ h. removed-rising (c.number + 1) m cs h (neither (m == c.number) (has_change cs m) new).1 (both (nat_le least c.number) (rising (c.number + 1) (numbers_of cs)) e).1)
  where
    by : (l : Bool) → nat_lt m c.number ≡ l → (c.number + 1 ≤ m → rising (c.number + 1) (numbers_of (put_removed m cs)) ≡ true) → rising least (numbers_of (cond l (removed m ∷ c ∷ cs) (c ∷ put_removed m cs))) ≡ true
    by true f go =
        let under = less m c.number f in
        two (nat_le least m) (nat_le (m + 1) c.number && rising (c.number + 1) (numbers_of cs)) (is_most least m le)
        (two (nat_le (m + 1) c.number) (rising (c.number + 1) (numbers_of cs)) (is_most (m + 1) c.number (omega (arith, under))) (both (nat_le least c.number) (rising (c.number + 1) (numbers_of cs)) e).1)
    by false f go =
        let over = not_less m c.number f in
        let unlike = apart m c.number (neither (m == c.number) (has_change cs m) new).0 in
        two (nat_le least c.number) (rising (c.number + 1) (numbers_of (put_removed m cs))) (both (nat_le least c.number) (rising (c.number + 1) (numbers_of cs)) e).0 (go (grind (arith, over, unlike)))

-- all removed rows

module _ (now : List (ℕ × Row)) (below : ℕ) where
  abbrev gone_at : Option Row → ℕ → Bool
  gone_at was n = is_some was && is_gone (row_of now n)

  record Removes (rows : List (ℕ × Row)) (made later : List RowChange) : Type 0 where
    told : Told now later
    all : AllBelow below later
    up : rising 0 (numbers_of later) ≡ true
    has : (n : ℕ) → has_change later n ≡ (has_change made n || gone_at (row_of rows n) n)

  -- changes of numbers from `first` on are of rows that are there
  abbrev AreThere : ℕ → List RowChange → Type 0
  AreThere first made = (n : ℕ) → first ≤ n → has_change made n ≡ true → is_gone (row_of now n) ≡ false

  gone-none : (o : Option Row) → is_gone o ≡ true → o ≡ None
  gone-none None e = refl
  gone-none (Some r) e = absurd (false_true e)

  removes : (first : ℕ) (rows : List (ℕ × Row)) (made : List RowChange) → Rise first below rows → Told now made → AllBelow below made → rising 0 (numbers_of made) ≡ true → AreThere first made → Removes rows made (with_removed now rows made)
  removes first [] made rise told all up there = record { told = told; all = all; up = up; has = λ n. no_more (has_change made n) }
    where
      no_more : (b : Bool) → b ≡ (b || false)
      no_more true = refl
      no_more false = refl
  removes first (r ∷ rs) made rise told all up there =
      by (is_gone (row_of now r.0)) refl (λ later t a u f. removes (r.0 + 1) rs later rise.2 t a u f)
    where
      none : (n : ℕ) → (n == r.0) ≡ true → row_of rs n ≡ None
      none n at = let is : n ≡ r.0 = same n r.0 at in below-none (r.0 + 1) below rs n rise.2 (omega (arith, is))

      from : (n : ℕ) → r.0 + 1 ≤ n → first ≤ n
      from n le = let at = rise.0 in omega (arith, le, at)

      new : is_gone (row_of now r.0) ≡ true → has_change made r.0 ≡ false
      new gone = never (has_change made r.0) (λ e. false_true (sym (there r.0 rise.0 e) ∙ gone))
        where
          never : (b : Bool) → (b ≡ true → ⊥) → b ≡ false
          never true never_so = absurd (never_so refl)
          never false never_so = refl

      there_more : (n : ℕ) → r.0 + 1 ≤ n → has_change (put_removed r.0 made) n ≡ true → is_gone (row_of now n) ≡ false
      there_more n le e = there n (from n le) (sym (removed-has r.0 made n ∙ ap (λ b. b || has_change made n) (other n r.0 (λ is. omega (arith, le, is)))) ∙ e)

      has_gone : is_gone (row_of now r.0) ≡ true → (n : ℕ) → (has_change (put_removed r.0 made) n || gone_at (row_of rs n) n) ≡ (has_change made n || gone_at (cond (n == r.0) (Some r.1) (row_of rs n)) n)
      has_gone gone n = ap (λ b. b || gone_at (row_of rs n) n) (removed-has r.0 made n) ∙ case (n == r.0) refl (has_change made n)
        where
          case : (a : Bool) → (n == r.0) ≡ a → (h : Bool) → ((a || h) || gone_at (row_of rs n) n) ≡ (h || gone_at (cond a (Some r.1) (row_of rs n)) n)
          case true at true = refl
          case true at false = sym (ap (λ m. is_gone (row_of now m)) (same n r.0 at) ∙ gone)
          case false at h = refl

      has_still : is_gone (row_of now r.0) ≡ false → (n : ℕ) → (has_change made n || gone_at (row_of rs n) n) ≡ (has_change made n || gone_at (cond (n == r.0) (Some r.1) (row_of rs n)) n)
      has_still still n = case (n == r.0) refl (has_change made n)
        where
          case : (a : Bool) → (n == r.0) ≡ a → (h : Bool) → (h || gone_at (row_of rs n) n) ≡ (h || gone_at (cond a (Some r.1) (row_of rs n)) n)
          case true at true = refl
          case true at false = ap (λ (o : Option Row). gone_at o n) (none n at) ∙ sym (ap (λ m. is_gone (row_of now m)) (same n r.0 at) ∙ still)
          case false at h = refl

      by : (g : Bool) → is_gone (row_of now r.0) ≡ g → ((later : List RowChange) → Told now later → AllBelow below later → rising 0 (numbers_of later) ≡ true → AreThere (r.0 + 1) later → Removes rs later (with_removed now rs later))
          → Removes (r ∷ rs) made (with_removed now rs (cond g (put_removed r.0 made) made))
      by true gone go =
          let rest = go (put_removed r.0 made) (removed-told now r.0 made (gone-none (row_of now r.0) gone) told) (removed-below below r.0 made rise.1 all) (removed-rising 0 r.0 made (omega arith) (new gone) up) there_more in
          record { told = rest.told; all = rest.all; up = rest.up; has = λ n. rest.has n ∙ has_gone gone n }
      by false still go =
          let rest = go made told all up (λ n le e. there n (from n le) e) in
          record { told = rest.told; all = rest.all; up = rest.up; has = λ n. rest.has n ∙ has_still still n }

-- THE CHANGES from one list of rows to another

module _ (was now : List (ℕ × Row)) (below : ℕ) (rise : Rise 0 below was) (rise_now : Rise 0 below now) where
  made_there : (n : ℕ) → 0 ≤ n → has_change (changed_of was now now) n ≡ true → is_gone (row_of now n) ≡ false
  made_there n le e = by (row_of now n) (sym (changed-has was now 0 below now n rise_now) ∙ e)
    where
      by : (o : Option Row) → new_at was now n o ≡ true → is_gone o ≡ false
      by None e = absurd (false_true e)
      by (Some r) e = refl

  all_made : Removes now below was (changed_of was now now) (row_changes was now)
  all_made = removes now below 0 was (changed_of was now now) rise (changed-told was now 0 below now rise_now (λ n row is. is)) (changed-below was now 0 below now rise_now) (changed-rising was now 0 below now rise_now) made_there

  pub changes-rising : rising 0 (numbers_of (row_changes was now)) ≡ true
  changes-rising = all_made.up

  at-each : (n : ℕ) → row_of (with_row_changes was (row_changes was now)) n ≡ row_of now n
  at-each n =
      changes-at below was (row_changes was now) n rise all_made.all ∙ told-at now (row_changes was now) n (row_of was n) all_made.told
      ∙ by (has_change (row_changes was now) n) (sym (all_made.has n ∙ ap (λ b. b || gone_at now below (row_of was n) n) (changed-has was now 0 below now n rise_now)))
    where
      left : (w o : Option Row) → row_of was n ≡ w → row_of now n ≡ o → new_at was now n o ≡ false → (is_some w && is_gone o) ≡ false → w ≡ o
      left None None at_w at_o new gone = refl
      left None (Some x) at_w at_o new gone = absurd (false_true (sym new ∙ ap (λ (o : Option Row). is_changed o (n, x)) at_w))
      left (Some w) None at_w at_o new gone = absurd (false_true (sym gone))
      left (Some w) (Some x) at_w at_o new gone = ap (λ (r : ℕ × Row). Some r.1) ((row-decides (n, w) (n, x)).0 (is_same (same_row (n, w) (n, x)) (sym (ap (λ (o : Option Row). is_changed o (n, x)) at_w) ∙ new)))
        where
          is_same : (b : Bool) → not b ≡ false → b ≡ true
          is_same true e = refl
          is_same false e = absurd (false_true (sym e))

      by : (b : Bool) → (new_at was now n (row_of now n) || gone_at now below (row_of was n) n) ≡ b → cond b (row_of now n) (row_of was n) ≡ row_of now n
      by true e = refl
      by false e = let one = neither (new_at was now n (row_of now n)) (gone_at now below (row_of was n) n) e in left (row_of was n) (row_of now n) refl refl one.0 one.1

  pub changes-lead : with_row_changes was (row_changes was now) ≡ now
  changes-lead = same-rows 0 below (with_row_changes was (row_changes was now)) now (changes-rise below was (row_changes was now) rise all_made.all) rise_now at-each

-- all numbers are below the next one
all-below : (first below : ℕ) (rows : List (ℕ × Row)) → Rise first below rows → list_all (λ r. nat_lt r.0 below) rows ≡ true
all-below first below [] rise = refl
all-below first below (r ∷ rs) rise = two (nat_lt r.0 below) (list_all (λ x. nat_lt x.0 below) rs) (is_less r.0 below rise.1) (all-below (r.0 + 1) below rs rise.2)

-- a table with the changes between its rows and those of another
pub rows-changed : (version : ℕ) (columns : List Column) (next before : ℕ) (was now : List (ℕ × Row)) → Rise 0 before was → Rise 0 next now
    → changed_rows (record { version = version; columns = columns; next = next; rows = was }) (row_changes was now) ≡ Some (record { version = version; columns = columns; next = next; rows = now })
rows-changed version columns next before was now rise rise_now =
    let wide = rise-below 0 before (before + next) was (omega arith) rise in
    let wide_now = rise-below 0 next (before + next) now (omega arith) rise_now in
    let led = changes-lead was now (before + next) wide wide_now in
    ap (λ b. cond (b && list_all (λ r. nat_lt r.0 next) (with_row_changes was (row_changes was now))) (Some (record { version = version; columns = columns; next = next; rows = with_row_changes was (row_changes was now) })) None) (changes-rising was now (before + next) wide wide_now)
    ∙ ap (λ (rows : List (ℕ × Row)). cond (list_all (λ r. nat_lt r.0 next) rows) (Some (record { version = version; columns = columns; next = next; rows = rows })) None) led
    ∙ ap (λ b. cond b (Some (record { version = version; columns = columns; next = next; rows = now })) None) (all-below 0 next now rise_now)

-- the rows of a new table
all-new : (now : List (ℕ × Row)) → filter (λ r. is_changed (row_of [] r.0) r) now ≡ now
all-new [] = refl
all-new (r ∷ rs) = ap (λ (xs : List (ℕ × Row)). r ∷ xs) (all-new rs)

pub rows-made : (version : ℕ) (columns : List Column) (next : ℕ) (now : List (ℕ × Row)) → Rise 0 next now
    → changed_rows (record { version = version; columns = columns; next = next; rows = [] }) (map row_change now) ≡ Some (record { version = version; columns = columns; next = next; rows = now })
rows-made version columns next now rise =
    ap (λ (xs : List (ℕ × Row)). changed_rows (record { version = version; columns = columns; next = next; rows = [] }) (map row_change xs)) (sym (all-new now))
    ∙ rows-changed version columns next 0 [] now tt rise
