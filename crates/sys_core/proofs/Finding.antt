-- THE LINK OF A NUMBER: the first row that has it, in the first table that has such a row, has the first link of it.
use Rattle.std.proofs.Common.{◌≡◌, ◌≢◌, ℕ, ◌+◌, ◌≤◌, ◌||◌, List, [], ◌∷◌, ◌++◌, Bool, true, false, cond, is_some, Option, Some, None, refl, sym, ◌∙◌, ap, subst, arith}
use Rattle.std.proofs.lemmas.Bool.{eq-eqb, ne_eqb}
use Rattle.std.proofs.lemmas.List.Folds.{find-append}
use Rattle.std.specs.List.{find, flat_map, list_any}
use Rattle.std.specs.Option.{option_or}
use Rattle.dl_base.specs.declared.column.Column.{Column}
use Rattle.dl_base.specs.declared.value.LinkNo.{LinkNo}
use Rattle.dl_base.specs.declared.value.LinkRow.{LinkRow}
use Rattle.dl_base.specs.declared.value.Row.{Row}
use Rattle.meaning_areas.proofs.Tables.{some_same}
use Rattle.meaning_tables.specs.First.{first_number, has_link}
use Rattle.meaning_tables.specs.Links.{links, row_links, table_links}
use Rattle.meaning_tables.specs.Tables.{Rise, Rows, Tables, row_of}
use Rattle.sys_core.specs.Numbered.{numbered_in, of_number}

none_some : {A : Type 0} (x : A) → None ≡ Some x → ⊥
none_some x e = cc

-- something is found where some item passes
any-found : (test : LinkRow → Bool) (ls : List LinkRow) → list_any test ls ≡ is_some (find test ls)
any-found test [] = refl
any-found test (l ∷ ls) = by (test l) (any-found test ls)
  where
    by : (b : Bool) → list_any test ls ≡ is_some (find test ls) → (b || list_any test ls) ≡ is_some (cond b (Some l) (find test ls))
    by true e = refl
    by false e = e

or-found : {A : Type 0} (o p : Option A) → is_some o ≡ true → option_or o p ≡ o
or-found None p e = absurd cc
or-found (Some x) p e = refl

or-missed : {A : Type 0} (o p : Option A) → is_some o ≡ false → option_or o p ≡ p
or-missed None p e = refl
or-missed (Some x) p e = absurd cc

module _ (n : LinkNo) where
  -- in the first table, or else in the others
  pub first-table : (t : List ℕ × Rows) (ts : Tables) → find (of_number n) (links (t ∷ ts)) ≡ option_or (find (of_number n) (table_links t.1)) (find (of_number n) (links ts))
  first-table t ts = find-append (of_number n) (table_links t.1) (links ts)

  module _ (columns : List Column) where
    abbrev of_rows : List (ℕ × Row) → List LinkRow
    of_rows rows = flat_map (λ r. row_links columns r.1.values) rows

    abbrev by_number : List (ℕ × Row) → Option ℕ → Option LinkRow
    by_number rows None = None
    by_number rows (Some k) = numbered_in n columns (row_of rows k)

    abbrev first_of : List (ℕ × Row) → Option ℕ
    first_of rows = first_number (has_link columns n) rows

    -- the number of the row that is found is one of theirs
    above : (first below : ℕ) (rows : List (ℕ × Row)) (k : ℕ) → Rise first below rows → first_of rows ≡ Some k → first ≤ k
    above first below [] k rise e = absurd (none_some k e)
    above first below (r ∷ rs) k rise e = by (has_link columns n r.1) (above (r.0 + 1) below rs k rise.2) e
      where
        by : (b : Bool) → (first_of rs ≡ Some k → r.0 + 1 ≤ k) → cond b (Some r.0) (first_of rs) ≡ Some k → first ≤ k
        by true later here = subst (λ (m : ℕ). first ≤ m) (some_same r.0 k here) rise.0
        by false later there = let past = later there in omega (arith, past, rise.0)

    rows-numbered : (first below : ℕ) (rows : List (ℕ × Row)) → Rise first below rows → find (of_number n) (of_rows rows) ≡ by_number rows (first_of rows)
    rows-numbered first below [] rise = refl
    rows-numbered first below (r ∷ rs) rise =
        find-append (of_number n) (row_links columns r.1.values) (of_rows rs)
        ∙ by (has_link columns n r.1) (any-found (of_number n) (row_links columns r.1.values)) (rows-numbered (r.0 + 1) below rs rise.2)
      where
        here : Option LinkRow
        here = find (of_number n) (row_links columns r.1.values)

        -- a later row has a greater number
        later : (o : Option ℕ) → first_of rs ≡ o → by_number rs o ≡ by_number (r ∷ rs) o
        later None e = refl
        later (Some k) e =
            let past : r.0 + 1 ≤ k = above (r.0 + 1) below rs k rise.2 e in
            let other : k ≢ r.0 = λ same. omega (arith, past, same) in
            ap (λ b. numbered_in n columns (cond b (Some r.1) (row_of rs k))) (sym (ne_eqb k r.0 other))

        by : (b : Bool) → b ≡ is_some here → find (of_number n) (of_rows rs) ≡ by_number rs (first_of rs) → option_or here (find (of_number n) (of_rows rs)) ≡ by_number (r ∷ rs) (cond b (Some r.0) (first_of rs))
        by true has rest = or-found here (find (of_number n) (of_rows rs)) (sym has) ∙ sym (ap (λ b. numbered_in n columns (cond b (Some r.1) (row_of rs r.0))) (eq-eqb r.0 r.0 refl))
        by false lacks rest = or-missed here (find (of_number n) (of_rows rs)) (sym lacks) ∙ rest ∙ later (first_of rs) refl

  -- in the row that the index tells
  pub table-numbered : (t : Rows) (o : Option ℕ) → Rise 0 t.next t.rows → o ≡ first_number (has_link t.columns n) t.rows → find (of_number n) (table_links t) ≡ by_number t.columns t.rows o
  table-numbered t o rise is = rows-numbered t.columns 0 t.next t.rows rise ∙ ap (by_number t.columns t.rows) (sym is)

  -- no row has it, or one of this number
  pub table-none : (t : Rows) (o : Option ℕ) → Rise 0 t.next t.rows → o ≡ first_number (has_link t.columns n) t.rows → o ≡ None → None ≡ find (of_number n) (table_links t)
  table-none t o rise is none = sym (table-numbered t o rise is ∙ ap (by_number t.columns t.rows) none)

  pub table-some : (t : Rows) (o : Option ℕ) (k : ℕ) → Rise 0 t.next t.rows → o ≡ first_number (has_link t.columns n) t.rows → o ≡ Some k → numbered_in n t.columns (row_of t.rows k) ≡ find (of_number n) (table_links t)
  table-some t o k rise is some = sym (table-numbered t o rise is ∙ ap (by_number t.columns t.rows) some)

  -- table after table
  pub tables-found : (t : List ℕ × Rows) (ts all rest : Tables) (l : LinkRow) → rest ≡ t ∷ ts → find (of_number n) (links rest) ≡ find (of_number n) (links all) → find (of_number n) (table_links t.1) ≡ Some l → Some l ≡ find (of_number n) (links all)
  tables-found t ts all rest l split so_far found =
      ap (λ (o : Option LinkRow). option_or o (find (of_number n) (links ts))) (sym found) ∙ sym (first-table t ts) ∙ ap (λ (xs : Tables). find (of_number n) (links xs)) (sym split) ∙ so_far

  pub tables-more : (t : List ℕ × Rows) (ts all rest : Tables) → rest ≡ t ∷ ts → find (of_number n) (links rest) ≡ find (of_number n) (links all) → find (of_number n) (table_links t.1) ≡ None → find (of_number n) (links ts) ≡ find (of_number n) (links all)
  tables-more t ts all rest split so_far missed =
      ap (λ (o : Option LinkRow). option_or o (find (of_number n) (links ts))) (sym missed) ∙ sym (first-table t ts) ∙ ap (λ (xs : Tables). find (of_number n) (links xs)) (sym split) ∙ so_far

  -- column after column
  pub cells-found : (xs ys all rest : List LinkRow) (l : LinkRow) → rest ≡ xs ++ ys → find (of_number n) rest ≡ find (of_number n) all → find (of_number n) xs ≡ Some l → Some l ≡ find (of_number n) all
  cells-found xs ys all rest l split so_far found =
      ap (λ (o : Option LinkRow). option_or o (find (of_number n) ys)) (sym found) ∙ sym (find-append (of_number n) xs ys) ∙ ap (find (of_number n)) (sym split) ∙ so_far

  pub cells-more : (xs ys all rest : List LinkRow) → rest ≡ xs ++ ys → find (of_number n) rest ≡ find (of_number n) all → find (of_number n) xs ≡ None → find (of_number n) ys ≡ find (of_number n) all
  cells-more xs ys all rest split so_far missed =
      ap (λ (o : Option LinkRow). option_or o (find (of_number n) ys)) (sym missed) ∙ sym (find-append (of_number n) xs ys) ∙ ap (find (of_number n)) (sym split) ∙ so_far

-- the links of the columns that are left: those of the first, and of the others; past the last column, or the last value, none

pub no_values : (cs : List Column) → row_links cs [] ≡ []
no_values [] = refl
no_values (c ∷ cs) = refl
