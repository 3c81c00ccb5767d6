-- A target without its lost cells, row by row and table by table.
use Rattle.std.proofs.Common.{◌≡◌, ℕ, ◌+◌, ◌≤◌, ◌<◌, Bool, true, false, cond, List, [], ◌∷◌, ◌++◌, drop, drop_of_length-le, get_or, length, slice_get, Option, Some, None, append-nil, append_assoc, refl, sym, ◌∙◌, ap, subst, arith}
use Rattle.std.proofs.lemmas.Bool.{eq-eqb, ne_eqb}
use Rattle.dl_base.specs.declared.column.Column.{Column}
use Rattle.dl_base.specs.declared.value.LinkRow.{LinkRow}
use Rattle.dl_base.specs.declared.value.Row.{Row}
use Rattle.dl_base.specs.declared.value.Value.{Value}
use Rattle.dl_base.specs.declared.value.Value.TheVariants as values
use Rattle.meaning_merge.specs.Merging.{AreNamed}
use Rattle.meaning_merge.specs.Restoring.{loses, without_cells, without_lost}
use Rattle.meaning_merge.proofs.Numbers.{none}
use Rattle.meaning_tables.specs.Tables.{Rise, Rows, Tables, table_of, with_row, with_table}
use Rattle.sql_table.proofs.Left.{item_left, none_left, nothing_more}
use Rattle.bk_losing.specs.Losing.{cell_without, loses_any, row_set, row_without, rows_without, table_without}
use Rattle.bk_losing.proofs.LostLaws.{next}
use Rattle.bk_losing.proofs.Named.{named-out, with-middle}

pub none_loses : (lost : LinkRow → Bool) (cs : List Column) → loses_any lost cs [] ≡ false
none_loses lost [] = refl
none_loses lost (c ∷ cs) = refl

-- the row of a number in the middle

above : (first below number : ℕ) (kept more : List (ℕ × Row)) (x : Row) → Rise first below (kept ++ (number, x) ∷ more) → first ≤ number
above first below number [] more x rise = rise.0
above first below number (r ∷ rs) more x rise = omega (arith, rise.0, above (r.0 + 1) below number rs more x rise.2)

put_in : (first below number : ℕ) (kept rest more : List (ℕ × Row)) (old new x : Row) → Rise first below (kept ++ (number, x) ∷ more)
    → with_row (kept ++ (number, old) ∷ rest) number new ≡ kept ++ (number, new) ∷ rest
put_in first below number [] rest more old new x rise = rw (eq-eqb number number refl) refl
put_in first below number (r ∷ rs) rest more old new x rise =
    rw (ne_eqb number r.0 (λ e. omega (arith, e, above (r.0 + 1) below number rs more x rise.2))) (ap (λ xs. r ∷ xs) (put_in (r.0 + 1) below number rs rest more old new x rise.2))

-- a table that is put in the place of one, by what it is
pub with-table : (made : Tables) (name : List ℕ) (t other : Rows) {after : Tables} → t ≡ other → after ≡ with_table made name t → after ≡ with_table made name other
with-table made name t other is puts = puts ∙ ap (λ (u : Rows). with_table made name u) is

module _ (lost : LinkRow → Bool) where
  -- one cell

  pub cell-turn : (cs : List Column) (i : ℕ) (v : Value) (vs : List Value) → without_cells lost (drop i cs) (v ∷ vs) ≡ cell_without lost (slice_get cs i) v ∷ without_cells lost (drop (i + 1) cs) vs
  cell-turn cs i v vs = by (slice_get cs i) refl
    where
      by : (o : Option Column) → slice_get cs i ≡ o → without_cells lost (drop i cs) (v ∷ vs) ≡ cell_without lost o v ∷ without_cells lost (drop (i + 1) cs) vs
      by None at =
          let left = none_left cs i at in
          ap (λ (ds : List Column). without_cells lost ds (v ∷ vs)) left ∙ sym (ap (λ (ds : List Column). v ∷ without_cells lost ds vs) (nothing_more cs i left))
      by (Some c) at = ap (λ (ds : List Column). without_cells lost ds (v ∷ vs)) (item_left cs i c at)

  -- one more value, that is put behind those so far
  pub value-turn : (cs : List Column) (values items : List Value) (i : ℕ) (v new : Value) (made after : List Value) (o : Option Column) → items ≡ values → i < length items → v ≡ get_or items i v
      → o ≡ slice_get cs i → new ≡ cell_without lost o v → after ≡ made ++ new ∷ [] → (all : List Value) → made ++ without_cells lost (drop i cs) (drop i values) ≡ all → after ++ without_cells lost (drop (i + 1) cs) (drop (i + 1) values) ≡ all
  value-turn cs values items i v new made after o same within is at becomes puts all so_far =
      ap (λ (us : List Value). us ++ without_cells lost (drop (i + 1) cs) (drop (i + 1) values)) puts
      ∙ append_assoc made (new ∷ []) (without_cells lost (drop (i + 1) cs) (drop (i + 1) values))
      ∙ ap (λ (u : Value). made ++ u ∷ without_cells lost (drop (i + 1) cs) (drop (i + 1) values)) (becomes ∙ ap (λ (p : Option Column). cell_without lost p v) at)
      ∙ ap (λ (us : List Value). made ++ us) (sym (cell-turn cs i v (drop (i + 1) values)))
      ∙ ap (λ (us : List Value). made ++ without_cells lost (drop i cs) us) (sym (next items values i v same within is)) ∙ so_far

  value-end : (cs : List Column) (values made : List Value) (i : ℕ) → drop i values ≡ [] → (all : List Value) → made ++ without_cells lost (drop i cs) (drop i values) ≡ all → made ≡ all
  value-end cs values made i nothing all so_far =
      sym (append-nil made) ∙ sym (ap (λ (us : List Value). made ++ us) (ap (λ (us : List Value). without_cells lost (drop i cs) us) nothing ∙ no-cells (drop i cs))) ∙ so_far
    where
      no-cells : (ds : List Column) → without_cells lost ds [] ≡ []
      no-cells [] = refl
      no-cells (d ∷ ds) = refl

  abbrev as_row : List Value → Row
  as_row vs = record { values = vs }

  pub row-end : (cs : List Column) (values made : List Value) (i : ℕ) → length values ≤ i → made ++ without_cells lost (drop i cs) (drop i values) ≡ without_cells lost cs values → as_row made ≡ as_row (without_cells lost cs values)
  row-end cs values made i past so_far = ap as_row (value-end cs values made i (drop_of_length-le values past) (without_cells lost cs values) so_far)

  -- a row that has no lost cell is as it was
  kept-cells : (cs : List Column) (vs : List Value) → loses_any lost cs vs ≡ false → without_cells lost cs vs ≡ vs
  kept-cells [] vs e = refl
  kept-cells (c ∷ cs) [] e = refl
  kept-cells (c ∷ cs) (v ∷ vs) e =
      let two = none (loses lost c v) (loses_any lost cs vs) e in
      ap (λ b. cond b values.Null v ∷ without_cells lost cs vs) two.0 ∙ ap (λ (us : List Value). v ∷ us) (kept-cells cs vs two.1)

  -- ROWS

  rise-without : (first below : ℕ) (cs : List Column) (rows : List (ℕ × Row)) → Rise first below rows → Rise first below (rows_without lost cs rows)
  rise-without first below cs [] rise = tt
  rise-without first below cs (r ∷ rs) rise = (rise.0, rise.1, rise-without (r.0 + 1) below cs rs rise.2)

  module _ (cs : List Column) (rows : List (ℕ × Row)) where
    -- the rows so far are without their lost cells, and behind them stand the others
    abbrev pub RowsSo : ℕ → List (ℕ × Row) → Type 0
    RowsSo i made = (done : List (ℕ × Row)) × (made ≡ done ++ drop i rows) × (done ++ rows_without lost cs (drop i rows) ≡ rows_without lost cs rows)

    pub rows-begun : (made : List (ℕ × Row)) → made ≡ rows → RowsSo 0 made
    rows-begun made is = ([], is, refl)

    pub rows-turn : (next i number : ℕ) (row : Row) (made after : List (ℕ × Row)) → Rise 0 next rows → drop i rows ≡ (number, row) ∷ drop (i + 1) rows → after ≡ row_set lost cs made number row
        → RowsSo i made → RowsSo (i + 1) after
    rows-turn next i number row made after rise at set (done, is, all) = (
      done ++ (number, row_without lost cs row) ∷ [],
      set ∙ by (loses_any lost cs row.values) refl ∙ sym (append_assoc done ((number, row_without lost cs row) ∷ []) (drop (i + 1) rows)),
      append_assoc done ((number, row_without lost cs row) ∷ []) (rows_without lost cs (drop (i + 1) rows)) ∙ both,
    )
      where
        both : done ++ (number, row_without lost cs row) ∷ rows_without lost cs (drop (i + 1) rows) ≡ rows_without lost cs rows
        both = ap (λ (rs : List (ℕ × Row)). done ++ rows_without lost cs rs) (sym at) ∙ all

        here : made ≡ done ++ (number, row) ∷ drop (i + 1) rows
        here = is ∙ ap (λ (rs : List (ℕ × Row)). done ++ rs) at

        risen : Rise 0 next (done ++ (number, row_without lost cs row) ∷ rows_without lost cs (drop (i + 1) rows))
        risen = subst (λ (rs : List (ℕ × Row)). Rise 0 next rs) (sym both) (rise-without 0 next cs rows rise)

        by : (b : Bool) → loses_any lost cs row.values ≡ b → cond b (with_row made number (row_without lost cs row)) made ≡ done ++ (number, row_without lost cs row) ∷ drop (i + 1) rows
        by true e =
            ap (λ (rs : List (ℕ × Row)). with_row rs number (row_without lost cs row)) here
            ∙ put_in 0 next number done (drop (i + 1) rows) (rows_without lost cs (drop (i + 1) rows)) row (row_without lost cs row) (row_without lost cs row) risen
        by false e = here ∙ ap (λ (vs : List Value). done ++ (number, record { values = vs }) ∷ drop (i + 1) rows) (sym (kept-cells cs row.values e))

  -- one table, whose rows are set one after another
  pub table-turn : (t made after : Rows) (i number : ℕ) (row : Row) → Rise 0 t.next t.rows → drop i t.rows ≡ (number, row) ∷ drop (i + 1) t.rows
      → after ≡ record made { rows = row_set lost t.columns made.rows number row } → made ≡ record t { rows = made.rows } → RowsSo t.columns t.rows i made.rows
      → (after ≡ record t { rows = after.rows }) × RowsSo t.columns t.rows (i + 1) after.rows
  table-turn t made after i number row rise at set of so =
      let rows = ap (λ (x : Rows). x.rows) set in
      (set ∙ ap (λ (x : Rows). record x { rows = row_set lost t.columns made.rows number row }) of ∙ ap (λ (rs : List (ℕ × Row)). record t { rows = rs }) (sym rows), rows-turn t.columns t.rows t.next i number row made.rows after.rows rise at rows so)

  -- TABLES
  module _ (target : Tables) where
    abbrev pub TablesSo : ℕ → Tables → Type 0
    TablesSo i made = (done : Tables) × (made ≡ done ++ drop i target) × (done ++ without_lost lost (drop i target) ≡ without_lost lost target)

    pub tables-begun : (made : Tables) → made ≡ target → TablesSo 0 made
    tables-begun made is = ([], is, refl)

    pub tables-turn : (i : ℕ) (name : List ℕ) (t : Rows) (made after : Tables) → AreNamed (without_lost lost target) → drop i target ≡ (name, t) ∷ drop (i + 1) target → after ≡ with_table made name (table_without lost t)
        → TablesSo i made → TablesSo (i + 1) after
    tables-turn i name t made after named at set (done, is, all) = (
      done ++ (name, table_without lost t) ∷ [],
      set ∙ ap (λ (ts : Tables). with_table ts name (table_without lost t)) (is ∙ ap (λ (ts : Tables). done ++ ts) at)
          ∙ with-middle done (drop (i + 1) target) (name, t) (table_without lost t) out
          ∙ sym (append_assoc done ((name, table_without lost t) ∷ []) (drop (i + 1) target)),
      append_assoc done ((name, table_without lost t) ∷ []) (without_lost lost (drop (i + 1) target)) ∙ both,
    )
      where
        both : done ++ (name, table_without lost t) ∷ without_lost lost (drop (i + 1) target) ≡ without_lost lost target
        both = ap (λ (ts : Tables). done ++ without_lost lost ts) (sym at) ∙ all

        out : table_of done name ≡ None
        out = named-out done (without_lost lost (drop (i + 1) target)) (name, table_without lost t) (subst (λ (ts : Tables). AreNamed ts) (sym both) named)
