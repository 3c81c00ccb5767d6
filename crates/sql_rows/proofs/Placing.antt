-- A row is set in rows whose numbers rise, or taken out of them.
use Rattle.std.proofs.Common.{◌≡◌, ℕ, ◌+◌, ◌≤◌, List, [], ◌∷◌, ◌++◌, refl, sym, ap, ◌∙◌, arith}
use Rattle.std.proofs.lemmas.Bool.{eq-eqb, ne_eqb}
use Rattle.dl_base.specs.declared.value.Row.{Row}
use Rattle.meaning_tables.specs.Tables.{Rows, Rise, with_row, without_row}

-- a number is from the first one on
above : (first below number : ℕ) (kept rest : List (ℕ × Row)) (row : Row) → Rise first below (kept ++ (number, row) ∷ rest) → first ≤ number
above first below number [] rest row rise = rise.0
above first below number (r ∷ rs) rest row rise = omega (arith, rise.0, above (r.0 + 1) below number rs rest row rise.2)

-- another row under its number
pub put_in : (first below number : ℕ) (kept rest : List (ℕ × Row)) (old new : Row) → Rise first below (kept ++ (number, old) ∷ rest)
    → with_row (kept ++ (number, old) ∷ rest) number new ≡ kept ++ (number, new) ∷ rest
put_in first below number [] rest old new rise = rw (eq-eqb number number refl) refl
put_in first below number (r ∷ rs) rest old new rise =
    rw (ne_eqb number r.0 (λ e. omega (arith, e, above (r.0 + 1) below number rs rest old rise.2))) (ap (λ xs. r ∷ xs) (put_in (r.0 + 1) below number rs rest old new rise.2))

-- and without it
pub taken_out : (first below number : ℕ) (kept rest : List (ℕ × Row)) (row : Row) → Rise first below (kept ++ (number, row) ∷ rest) → without_row (kept ++ (number, row) ∷ rest) number ≡ kept ++ rest
taken_out first below number [] rest row rise = rw (eq-eqb number number refl) refl
taken_out first below number (r ∷ rs) rest row rise =
    rw (ne_eqb number r.0 (λ e. omega (arith, e, above (r.0 + 1) below number rs rest row rise.2))) (ap (λ xs. r ∷ xs) (taken_out (r.0 + 1) below number rs rest row rise.2))

-- a table of which only the rows are others
pub still_of : (t made after : Rows) (rows : List (ℕ × Row)) → made ≡ record t { rows = made.rows } → after ≡ record made { rows = rows } → after ≡ record t { rows = after.rows }
still_of t made after rows of set = set ∙ ap (λ (x : Rows). record x { rows = rows }) of ∙ ap (λ (rs : List (ℕ × Row)). record t { rows = rs }) (sym (ap (λ (x : Rows). x.rows) set))

pub rows_alone : (t after : Rows) (rows : List (ℕ × Row)) → after ≡ record t { rows = rows } → after ≡ record t { rows = after.rows }
rows_alone t after rows set = set ∙ ap (λ (rs : List (ℕ × Row)). record t { rows = rs }) (sym (ap (λ (x : Rows). x.rows) set))
