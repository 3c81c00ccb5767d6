-- A row taken out by name and number, where names differ and row numbers rise.
use Rattle.std.proofs.Common.{◌≡◌, ℕ, ◌+◌, ◌<◌, ◌==◌, ◌&&◌, Bool, true, false, not, cond, bytes_eq, List, [], ◌∷◌, map, Some, None, refl, sym, ap, ◌∙◌, arith}
use Rattle.std.specs.Cmp.Lexicographic.{pointwise}
use Rattle.std.specs.List.{AllByRecursion, IsDistinct, filter}
use Rattle.std.proofs.lemmas.Bool.{eqb-true, ne_eqb}
use Rattle.std.proofs.lemmas.Slice.Eq.{bytes_eq-Decides}
use Rattle.dl_base.specs.declared.value.Row.{Row}
use Rattle.meaning_tables.specs.Tables.{Rise, Rows, Tables, table_of, with_table, without_row}
use Rattle.db_replay.specs.Standing.{is_row, stripped}

-- rows

none-gone : (first below number : ℕ) (rows : List (ℕ × Row)) → Rise first below rows → number < first → filter (λ r. not (number == r.0)) rows ≡ rows
none-gone first below number [] rise less = refl
none-gone first below number (r ∷ rs) rise less =
    ap (λ b. cond (not b) (r ∷ filter (λ r. not (number == r.0)) rs) (filter (λ r. not (number == r.0)) rs)) (ne_eqb number r.0 (λ e. omega (arith, rise.0, less, e)))
    ∙ ap (λ (xs : List (ℕ × Row)). r ∷ xs) (none-gone (r.0 + 1) below number rs rise.2 (omega (arith, rise.0, less)))

one-gone : (first below number : ℕ) (rows : List (ℕ × Row)) → Rise first below rows → without_row rows number ≡ filter (λ r. not (number == r.0)) rows
one-gone first below number [] rise = refl
one-gone first below number (r ∷ rs) rise = by (number == r.0) refl (one-gone (r.0 + 1) below number rs rise.2)
  where
    by : (b : Bool) → (number == r.0) ≡ b → without_row rs number ≡ filter (λ r. not (number == r.0)) rs → cond b rs (r ∷ without_row rs number) ≡ cond (not b) (r ∷ filter (λ r. not (number == r.0)) rs) (filter (λ r. not (number == r.0)) rs)
    by true e go = sym (none-gone (r.0 + 1) below number rs rise.2 (omega (arith, eqb-true number r.0 e)))
    by false e go = ap (λ (xs : List (ℕ × Row)). r ∷ xs) go

-- tables

filter-all : (rows : List (ℕ × Row)) → filter (λ r. true) rows ≡ rows
filter-all [] = refl
filter-all (r ∷ rs) = ap (λ (xs : List (ℕ × Row)). r ∷ xs) (filter-all rs)

module _ (name : List ℕ) (number : ℕ) where
  abbrev stays : List ℕ × Rows → List ℕ × Rows
  stays t = (t.0, record t.1 { rows = filter (λ r. not (is_row name number t.0 r.0)) t.1.rows })

  other : (t : List ℕ × Rows) → bytes_eq name t.0 ≡ false → stays t ≡ t
  other t e =
      ap (λ b. (t.0, record t.1 { rows = filter (λ r. not (b && (number == r.0))) t.1.rows })) e
      ∙ ap (λ (rs : List (ℕ × Row)). (t.0, record t.1 { rows = rs })) (filter-all t.1.rows)

  -- tables of other names
  pub none_named : (ts : Tables) → table_of ts name ≡ None → stripped (is_row name number) ts ≡ ts
  none_named [] none = refl
  none_named (t ∷ ts) none = by (bytes_eq name t.0) refl none (λ e. none_named ts e)
    where
      by : (b : Bool) → bytes_eq name t.0 ≡ b → cond b (Some t.1) (table_of ts name) ≡ None → (table_of ts name ≡ None → stripped (is_row name number) ts ≡ ts) → stays t ∷ stripped (is_row name number) ts ≡ t ∷ ts
      by true e none go = cc none
      by false e none go = ap (λ (u : List ℕ × Rows). u ∷ stripped (is_row name number) ts) (other t e) ∙ ap (λ (us : Tables). t ∷ us) (go none)

  apart : (ts : Tables) (n : List ℕ) → AllByRecursion (λ m. pointwise ◌==◌ n m ≡ false) (map (λ t. t.0) ts) → bytes_eq name n ≡ true → table_of ts name ≡ None
  apart [] n all same = refl
  apart (t ∷ ts) n all same = ap (λ b. cond b (Some t.1) (table_of ts name)) (ap (λ (m : List ℕ). bytes_eq m t.0) ((bytes_eq-Decides name n).0 same) ∙ all.0) ∙ apart ts n all.1 same

  -- the row goes from the table of the name alone
  pub one_named : (ts : Tables) (t : Rows) → IsDistinct (pointwise ◌==◌) (map (λ t. t.0) ts) → Rise 0 t.next t.rows → table_of ts name ≡ Some t → with_table ts name (record t { rows = without_row t.rows number }) ≡ stripped (is_row name number) ts
  unfolding IsDistinct
  one_named [] t distinct rise at = refl
  one_named (x ∷ xs) t distinct rise at = by (bytes_eq name x.0) refl at (λ e. one_named xs t distinct.1 rise e)
    where
      same : (a b : Rows) → Some a ≡ Some b → a ≡ b
      same a b e = cc e

      by : (b : Bool) → bytes_eq name x.0 ≡ b → cond b (Some x.1) (table_of xs name) ≡ Some t → (table_of xs name ≡ Some t → with_table xs name (record t { rows = without_row t.rows number }) ≡ stripped (is_row name number) xs)
          → cond b ((x.0, record t { rows = without_row t.rows number }) ∷ xs) (x ∷ with_table xs name (record t { rows = without_row t.rows number })) ≡ stays x ∷ stripped (is_row name number) xs
      by true e is go =
          ap (λ (rs : List (ℕ × Row)). (x.0, record t { rows = rs }) ∷ xs) (one-gone 0 t.next number t.rows rise)
          ∙ ap (λ (u : Rows). (x.0, record u { rows = filter (λ r. not (number == r.0)) u.rows }) ∷ xs) (sym (same x.1 t is))
          ∙ ap (λ b. (x.0, record x.1 { rows = filter (λ r. not (b && (number == r.0))) x.1.rows }) ∷ xs) (sym e)
          ∙ ap (λ (us : Tables). stays x ∷ us) (sym (none_named xs (apart xs x.0 distinct.0 e)))
      by false e is go = ap (λ (u : List ℕ × Rows). u ∷ with_table xs name (record t { rows = without_row t.rows number })) (sym (other x e)) ∙ ap (λ (us : Tables). stays x ∷ us) (go is)
