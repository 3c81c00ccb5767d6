-- Rows of which one has changed, whose key no other row has.
use Rattle.std.proofs.Common.{◌≡◌, ◌≢◌, ◌+◌, ◌<◌, ◌==◌, ◌||◌, ◌&&◌, ℕ, Bool, true, false, not, cond, List, [], ◌∷◌, Option, Some, None, Ok, if◌then◌else◌, refl, sym, ap, ◌∙◌, subst, arith, unwrap_or}
use Rattle.std.specs.Prelude.{slice_get}
use Rattle.std.specs.Cmp.Lexicographic.{pointwise}
use Rattle.std.specs.List.{AllByRecursion, list_any}
use Rattle.std.specs.Ordering.{int_eq}
use Rattle.std.proofs.lemmas.Bool.Decides.{nat_tests}
use Rattle.std.proofs.lemmas.Cmp.{int_eq_equiv, nat_list_eq_equiv}
use Rattle.dl_base.specs.declared.column.Column.{Column}
use Rattle.dl_base.specs.declared.value.Row.{Row}
use Rattle.dl_base.specs.declared.value.Value.{Value}
use Rattle.dl_base.specs.declared.value.Value.TheVariants as values
use Rattle.meaning_sql.specs.Faults.{option_list}
use Rattle.meaning_sql.specs.Values.{cell}
use Rattle.meaning_statements.specs.Changing.{keys_hold}
use Rattle.meaning_tables.specs.Fits.{same_key, key_of, repeated, table_fits}
use Rattle.meaning_tables.specs.Tables.{Rise, Rows, row_of, with_row}
use Rattle.sql_keys.specs.declared.finding.KeyRows.{KeyRows}
use Rattle.sql_keys.specs.declared.finding.KeyRows.TheVariants as left
use Rattle.sql_keys.specs.Asking.{are_unlike}
use Rattle.sql_keys.specs.Finding.{HasOther, PassesOver}
use Rattle.sql_keys.specs.Keys.{IsKeyAt}
use Rattle.sql_change.specs.Keys.{StoodKeys, is_at_most}
use Rattle.sql_change.proofs.Adding.{all_hold, none_repeated}
use Rattle.sql_change.proofs.Standing.{has_key_column}

-- values that are unlike are not the same key

not-true : (b : Bool) → not b ≡ true → b ≡ false
not-true true e = cc e
not-true false e = refl

differ : (v key : Value) → are_unlike v key ≡ true → (same_key v key ≡ false) × (same_key key v ≡ false)
differ (values.Int a) (values.Int b) e = let apart = not-true (int_eq a b) e in (apart, int_eq_equiv.symm b a ∙ apart)
differ (values.Text a) (values.Text b) e = let apart = not-true (pointwise ◌==◌ a b) e in (apart, nat_list_eq_equiv.symm b a ∙ apart)
differ (values.Int a) values.Null e = absurd (cc e)
differ (values.Int a) (values.Text t) e = absurd (cc e)
differ (values.Int a) (values.Link d) e = absurd (cc e)
differ (values.Text s) values.Null e = absurd (cc e)
differ (values.Text s) (values.Int b) e = absurd (cc e)
differ (values.Text s) (values.Link d) e = absurd (cc e)
differ values.Null values.Null e = absurd (cc e)
differ values.Null (values.Int b) e = absurd (cc e)
differ values.Null (values.Text t) e = absurd (cc e)
differ values.Null (values.Link d) e = absurd (cc e)
differ (values.Link d) values.Null e = absurd (cc e)
differ (values.Link d) (values.Int b) e = absurd (cc e)
differ (values.Link d) (values.Text t) e = absurd (cc e)
differ (values.Link d) (values.Link f) e = absurd (cc e)

or-false : (a b : Bool) → (a || b) ≡ false → b ≡ false
or-false true b e = cc e
or-false false b e = e

module _ (columns : List Column) (place : ℕ) (at : IsKeyAt columns place) (key : Value) where
  by-cell : (found : Option Value) → are_unlike (unwrap_or found values.Null) key ≡ true → (pointwise same_key (option_list found) (key ∷ []) ≡ false) × (pointwise same_key (key ∷ []) (option_list found) ≡ false)
  by-cell None e = (refl, refl)
  by-cell (Some v) e = let apart = differ v key e in (ap (λ b. b && true) apart.0, ap (λ b. b && true) apart.1)

  -- the key of a row whose cell is unlike
  row-differs : (row : Row) → HasOther place key row → (pointwise same_key (key_of columns row.values) (key ∷ []) ≡ false) × (pointwise same_key (key ∷ []) (key_of columns row.values) ≡ false)
  unfolding cell
  row-differs row other = subst (λ (ks : List Value). (pointwise same_key ks (key ∷ []) ≡ false) × (pointwise same_key (key ∷ []) ks ≡ false)) (sym (at row.values)) (by-cell (slice_get row.values place) other)

  -- a row that has none of some keys has none of others
  abbrev Spares : StoodKeys → StoodKeys → Row → Type 0
  Spares keys others row = list_any (pointwise same_key (key_of columns row.values)) keys ≡ false → list_any (pointwise same_key (key_of columns row.values)) others ≡ false

  one-more : (ks : List Value) (keys others : StoodKeys) (rows : List (ℕ × Row)) → AllByRecursion (λ r. Spares keys others r.1) rows → AllByRecursion (λ r. Spares (ks ∷ keys) (ks ∷ others) r.1) rows
  one-more ks keys others [] all = tt
  one-more ks keys others (r ∷ rs) all = (
    by (pointwise same_key (key_of columns r.1.values) ks) (list_any (pointwise same_key (key_of columns r.1.values)) keys) (list_any (pointwise same_key (key_of columns r.1.values)) others) all.0,
    one-more ks keys others rs all.1,
  )
    where
      by : (b x y : Bool) → (x ≡ false → y ≡ false) → (b || x) ≡ false → (b || y) ≡ false
      by true x y spares e = e
      by false x y spares e = spares e

  none-spared : (keys others : StoodKeys) (rows : List (ℕ × Row)) → AllByRecursion (λ r. Spares keys others r.1) rows → repeated columns keys rows ≡ None → repeated columns others rows ≡ None
  none-spared keys others [] all none = refl
  none-spared keys others (r ∷ rs) all none =
      by (list_any (pointwise same_key (key_of columns r.1.values)) keys) (list_any (pointwise same_key (key_of columns r.1.values)) others) all.0 none
      (none-spared (key_of columns r.1.values ∷ keys) (key_of columns r.1.values ∷ others) rs (one-more (key_of columns r.1.values) keys others rs all.1))
    where
      by : (b c : Bool) → (b ≡ false → c ≡ false) → (if b then Some r.0 else repeated columns (key_of columns r.1.values ∷ keys) rs) ≡ None
          → (repeated columns (key_of columns r.1.values ∷ keys) rs ≡ None → repeated columns (key_of columns r.1.values ∷ others) rs ≡ None)
          → (if c then Some r.0 else repeated columns (key_of columns r.1.values ∷ others) rs) ≡ None
      by true c spares none later = absurd (cc none)
      by false c spares none later = rw (spares refl) (later none)

  -- rows behind that of a number
  behind-spare : (first next number : ℕ) (ks : List Value) (keys : StoodKeys) (rows : List (ℕ × Row)) → Rise first next rows → number < first → AllByRecursion (λ r. r.0 ≢ number → HasOther place key r.1) rows
      → AllByRecursion (λ r. Spares (ks ∷ keys) ((key ∷ []) ∷ keys) r.1) rows
  behind-spare first next number ks keys [] rise past all = tt
  behind-spare first next number ks keys (r ∷ rs) rise past all = (
    (λ e. rw (row-differs r.1 (all.0 (λ same. omega (arith, rise.0, same)))).0
        (or-false (pointwise same_key (key_of columns r.1.values) ks) (list_any (pointwise same_key (key_of columns r.1.values)) keys) e)),
    behind-spare (r.0 + 1) next number ks keys rs rise.2 (omega (arith, rise.0)) all.1,
  )

  one-set : (first next number : ℕ) (rows : List (ℕ × Row)) (row : Row) (keys : StoodKeys) → Rise first next rows → key_of columns row.values ≡ key ∷ [] → AllByRecursion (λ r. r.0 ≢ number → HasOther place key r.1) rows
      → list_any (pointwise same_key (key ∷ [])) keys ≡ false → repeated columns keys rows ≡ None → repeated columns keys (with_row rows number row) ≡ None
  one-set first next number [] row keys rise own all new none = refl
  one-set first next number (r ∷ rs) row keys rise own all new none =
      let rest = later (list_any (pointwise same_key (key_of columns r.1.values)) keys) none in
      by rest (λ apart. one-set (r.0 + 1) next number rs row (key_of columns r.1.values ∷ keys) rise.2 own all.1 (rw (row-differs r.1 (all.0 apart)).1 new) rest.1) (number == r.0) refl
    where
      later : (b : Bool) → (if b then Some r.0 else repeated columns (key_of columns r.1.values ∷ keys) rs) ≡ None → (b ≡ false) × (repeated columns (key_of columns r.1.values ∷ keys) rs ≡ None)
      later true e = absurd (cc e)
      later false e = (refl, e)

      by : (list_any (pointwise same_key (key_of columns r.1.values)) keys ≡ false) × (repeated columns (key_of columns r.1.values ∷ keys) rs ≡ None)
          → (r.0 ≢ number → repeated columns (key_of columns r.1.values ∷ keys) (with_row rs number row) ≡ None)
          → (b : Bool) → (number == r.0) ≡ b → repeated columns keys (cond b ((r.0, row) ∷ rs) (r ∷ with_row rs number row)) ≡ None
      by rest more true is =
          let same : number ≡ r.0 = grind (arith, nat_tests) in
          rw (own, new) (none-spared (key_of columns r.1.values ∷ keys) ((key ∷ []) ∷ keys) rs (behind-spare (r.0 + 1) next number (key_of columns r.1.values) keys rs rise.2 (omega (arith, same)) all.1) rest.1)
      by rest more false is = rw rest.0 (more (λ same. clash same))
        where
          clash : r.0 ≡ number → ⊥
          clash same = grind (arith, nat_tests)

-- the row that has been put in
got-row : (rows : List (ℕ × Row)) (number : ℕ) (row x : Row) → row_of (with_row rows number row) number ≡ Some x → x ≡ row
got-row [] number row x is = cc is
got-row (r ∷ rs) number row x is = by (got-row rs number row x) (number == r.0) refl is
  where
    one : (a b : Row) → Some a ≡ Some b → b ≡ a
    one a b e = cc e

    by : (row_of (with_row rs number row) number ≡ Some x → x ≡ row) → (b : Bool) → (number == r.0) ≡ b → row_of (cond b ((r.0, row) ∷ rs) (r ∷ with_row rs number row)) number ≡ Some x → x ≡ row
    by later true e found = one row x (ap (λ b. cond b (Some row) (row_of rs number)) (sym e) ∙ found)
    by later false e found = later (ap (λ b. cond b (Some r.1) (row_of (with_row rs number row) number)) (sym e) ∙ found)

weaker : (P : Row → Type 0) (number : ℕ) (rows : List (ℕ × Row)) → AllByRecursion (λ r. P r.1) rows → AllByRecursion (λ r. r.0 ≢ number → P r.1) rows
weaker P number [] all = tt
weaker P number (r ∷ rs) all = ((λ other. all.0), weaker P number rs all.1)

others-by : (P : Row → Type 0) (number : ℕ) (rows : List (ℕ × Row)) (kept : KeyRows) → PassesOver P rows kept → is_at_most number kept ≡ true → AllByRecursion (λ r. r.0 ≢ number → P r.1) rows
others-by P number rows left.All over e = cc e
others-by P number rows (left.One n) over e = let same : n ≡ number = grind (arith, nat_tests) in subst (λ (m : ℕ). AllByRecursion (λ r. r.0 ≢ m → P r.1) rows) same over.1
others-by P number rows left.Nothing over e = weaker P number rows over

-- so the keys of all rows differ
pub alone_holds : (t made : Rows) (place number : ℕ) (x : Row) (key : Value) (kept : KeyRows) → table_fits t ≡ true → made ≡ record t { rows = made.rows } → (row : Row) × (made.rows ≡ with_row t.rows number row) → Rise 0 t.next t.rows → IsKeyAt t.columns place
    → row_of made.rows number ≡ Some x → slice_get x.values place ≡ Some key → PassesOver (HasOther place key) t.rows kept → is_at_most number kept ≡ true → keys_hold made ≡ Ok true
alone_holds t made place number x key kept fits others one rise at found is over most =
    let same : x ≡ one.0 = got-row t.rows number one.0 x (sym (ap (λ (rs : List (ℕ × Row)). row_of rs number) one.1) ∙ found) in
    let own : key_of t.columns one.0.values ≡ key ∷ [] = at one.0.values ∙ ap (λ (v : Option Value). option_list v) (subst (λ (r : Row). slice_get r.values place ≡ Some key) same is) in
    let none = one-set t.columns place at key 0 t.next number t.rows one.0 [] rise own (others-by (HasOther place key) number t.rows kept over most) refl (none_repeated t fits (has_key_column t.columns place at)) in
    ap (λ (m : Rows). keys_hold m) others
    ∙ all_hold (record t { rows = made.rows }) (subst (λ (rs : List (ℕ × Row)). repeated t.columns [] rs ≡ None) (sym one.1) none)
