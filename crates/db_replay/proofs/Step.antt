-- Tables with one row fit where those without it do, and the row stands among theirs.
use Rattle.std.proofs.Common.{◌≡◌, ℕ, ◌==◌, ◌&&◌, ◌||◌, Bool, true, false, not, cond, bytes_eq, List, [], ◌∷◌, ◌++◌, map, append_assoc, Some, None, is_none, refl, sym, ap, ◌∙◌}
use Rattle.std.specs.Cmp.Lexicographic.{pointwise}
use Rattle.std.specs.List.{flat_map, list_all, list_any}
use Rattle.std.proofs.lemmas.Grind.{flat_map-append}
use Rattle.std.proofs.lemmas.List.{map-append}
use Rattle.dl_base.specs.declared.column.Column.{Column}
use Rattle.dl_base.specs.declared.value.LinkNo.{LinkNo}
use Rattle.dl_base.specs.declared.value.LinkRow.{LinkRow}
use Rattle.dl_base.specs.declared.value.Row.{Row}
use Rattle.dl_base.specs.declared.value.Value.{Value}
use Rattle.meaning_tables.specs.First.{first_number, has_key}
use Rattle.meaning_tables.specs.Fits.{differ, fits, fits_columns, is_key, key_of, repeated, rows_fit, same_key, table_fits}
use Rattle.meaning_tables.specs.Links.{links, row_links, same_number, table_links}
use Rattle.meaning_tables.specs.Tables.{Rows, Tables, row_of, table_of, with_table, without_row}
use Rattle.db_replay.specs.Columns.{rules_stand}
use Rattle.db_replay.specs.Standing.{key_is_new, links_are_new, row_stands}
use Rattle.db_replay.proofs.Bools.{and_false, gathered}
use Rattle.db_replay.proofs.Differ.{differ_around, differ_between, none_in}
use Rattle.db_replay.proofs.Fewer.{keys_differ}
use Rattle.db_replay.proofs.Keys.{new_key, no_key}
use Rattle.db_replay.proofs.Symmetric.{keys-symmetric, numbers-symmetric}

-- where a row is found

record Split (rows : List (ℕ × Row)) (number : ℕ) (row : Row) : Type 0 where
  before : List (ℕ × Row)
  behind : List (ℕ × Row)
  at : ℕ
  whole : rows ≡ before ++ (at, row) ∷ behind
  without : without_row rows number ≡ before ++ behind

some-row : (a b : Row) → Some a ≡ Some b → a ≡ b
some-row a b e = cc e

split : (rows : List (ℕ × Row)) (number : ℕ) (row : Row) → row_of rows number ≡ Some row → Split rows number row
split [] number row is = cc is
split (r ∷ rs) number row is = by (number == r.0) refl is (λ e. split rs number row e)
  where
    by : (b : Bool) → (number == r.0) ≡ b → cond b (Some r.1) (row_of rs number) ≡ Some row → (row_of rs number ≡ Some row → Split rs number row) → Split (r ∷ rs) number row
    by true e is go = record {
      before = [];
      behind = rs;
      at = r.0;
      whole = ap (λ (x : Row). (r.0, x) ∷ rs) (some-row r.1 row is);
      without = ap (λ b. cond b rs (r ∷ without_row rs number)) e;
    }
    by false e is go =
        let s = go is in
        record {
          before = r ∷ s.before;
          behind = s.behind;
          at = s.at;
          whole = ap (λ (xs : List (ℕ × Row)). r ∷ xs) s.whole;
          without = ap (λ b. cond b rs (r ∷ without_row rs number)) e ∙ ap (λ (xs : List (ℕ × Row)). r ∷ xs) s.without;
        }

-- where a table is found

record Found (tables : Tables) (name : List ℕ) (t : Rows) : Type 0 where
  before : Tables
  behind : Tables
  at : List ℕ
  whole : tables ≡ before ++ (at, t) ∷ behind
  exchanged : (u : Rows) → with_table tables name u ≡ before ++ (at, u) ∷ behind

some-table : (a b : Rows) → Some a ≡ Some b → a ≡ b
some-table a b e = cc e

found : (tables : Tables) (name : List ℕ) (t : Rows) → table_of tables name ≡ Some t → Found tables name t
found [] name t is = cc is
found (x ∷ xs) name t is = by (bytes_eq name x.0) refl is (λ e. found xs name t e)
  where
    by : (b : Bool) → bytes_eq name x.0 ≡ b → cond b (Some x.1) (table_of xs name) ≡ Some t → (table_of xs name ≡ Some t → Found xs name t) → Found (x ∷ xs) name t
    by true e is go = record {
      before = [];
      behind = xs;
      at = x.0;
      whole = ap (λ (y : Rows). (x.0, y) ∷ xs) (some-table x.1 t is);
      exchanged = λ u. ap (λ b. cond b ((x.0, u) ∷ xs) (x ∷ with_table xs name u)) e;
    }
    by false e is go =
        let f = go is in
        record {
          before = x ∷ f.before;
          behind = f.behind;
          at = f.at;
          whole = ap (λ (ys : Tables). x ∷ ys) f.whole;
          exchanged = λ u. ap (λ b. cond b ((x.0, u) ∷ xs) (x ∷ with_table xs name u)) e ∙ ap (λ (ys : Tables). x ∷ ys) (f.exchanged u);
        }

all-around : {A : Type 0} (p : A → Bool) (before behind : List A) (x : A) → list_all p (before ++ x ∷ behind) ≡ (p x && list_all p (before ++ behind))
all-around p [] behind x = refl
all-around p (a ∷ before) behind x = ap (λ b. p a && b) (all-around p before behind x) ∙ swap (p a) (p x) (list_all p (before ++ behind))
  where
    swap : (a b c : Bool) → (a && (b && c)) ≡ (b && (a && c))
    swap true b c = refl
    swap false true c = refl
    swap false false c = refl

-- the rows of one table

module _ (columns : List Column) (stand : rules_stand false columns ≡ true) where
  abbrev fit : ℕ × Row → Bool
  fit r = fits_columns columns r.1.values

  abbrev key : ℕ × Row → List Value
  key r = key_of columns r.1.values

  abbrev alone : List (ℕ × Row) → Bool
  alone rows = is_none (cond (list_any (λ c. is_key c.rule) columns) (repeated columns [] rows) None)

  alone-around : (before behind : List (ℕ × Row)) (r : ℕ × Row) → fit r ≡ true → list_all fit (before ++ behind) ≡ true → alone (before ++ r ∷ behind) ≡ (key_is_new columns (before ++ behind) r.1.values && alone (before ++ behind))
  alone-around before behind r fits all = by (list_any (λ c. is_key c.rule) columns) refl
    where
      by : (b : Bool) → list_any (λ c. is_key c.rule) columns ≡ b → is_none (cond b (repeated columns [] (before ++ r ∷ behind)) None) ≡ (key_is_new columns (before ++ behind) r.1.values && is_none (cond b (repeated columns [] (before ++ behind)) None))
      by false has = ap (λ (ks : List Value). list_all (λ v. is_none (first_number (has_key columns v) (before ++ behind))) ks && true) (sym (no_key columns r.1.values has))
      by true has =
          keys_differ columns (before ++ r ∷ behind)
          ∙ ap (λ (ks : List (List Value)). differ (pointwise same_key) ks) (map-append key before (r ∷ behind))
          ∙ differ_around (pointwise same_key) keys-symmetric (map key before) (map key behind) (key r)
          ∙ ap (λ (ks : List (List Value)). not (list_any (pointwise same_key (key r)) ks) && differ (pointwise same_key) ks) (sym (map-append key before behind))
          ∙ ap (λ b. b && differ (pointwise same_key) (map key (before ++ behind))) (sym (new_key columns stand has r.1.values (before ++ behind) fits all))
          ∙ ap (λ b. key_is_new columns (before ++ behind) r.1.values && b) (sym (keys_differ columns (before ++ behind)))

  table-around : (before behind : List (ℕ × Row)) (r : ℕ × Row)
      → (list_all fit (before ++ r ∷ behind) && alone (before ++ r ∷ behind)) ≡ ((fit r && key_is_new columns (before ++ behind) r.1.values) && (list_all fit (before ++ behind) && alone (before ++ behind)))
  table-around before behind r = ap (λ b. b && alone (before ++ r ∷ behind)) (all-around fit before behind r) ∙ by (fit r) refl (list_all fit (before ++ behind)) refl
    where
      by : (f : Bool) → fit r ≡ f → (a : Bool) → list_all fit (before ++ behind) ≡ a → ((f && a) && alone (before ++ r ∷ behind)) ≡ ((f && key_is_new columns (before ++ behind) r.1.values) && (a && alone (before ++ behind)))
      by false e a g = refl
      by true e false g = sym (and_false (key_is_new columns (before ++ behind) r.1.values))
      by true e true g = alone-around before behind r e g

-- the links of all tables

any-number : (n : LinkNo) (ls : List LinkRow) → list_any (same_number n) (map (λ l. l.link) ls) ≡ list_any (λ l. same_number n l.link) ls
any-number n [] = refl
any-number n (l ∷ ls) = ap (λ b. same_number n l.link || b) (any-number n ls)

none-number : (ns : List LinkNo) (ls : List LinkRow) → none_in same_number (map (λ l. l.link) ls) ns ≡ list_all (λ n. not (list_any (λ l. same_number n l.link) ls)) ns
none-number [] ls = refl
none-number (n ∷ ns) ls = ap (λ b. not b && none_in same_number (map (λ l. l.link) ls) ns) (any-number n ls) ∙ ap (λ b. not (list_any (λ l. same_number n l.link) ls) && b) (none-number ns ls)

-- the links of a row between those of other rows and tables
module _ (before behind : Tables) (at : List ℕ) (t : Rows) (first rest : List (ℕ × Row)) (r : ℕ × Row) where
  abbrev of_rows : List (ℕ × Row) → List LinkRow
  of_rows rows = flat_map (λ r. row_links t.columns r.1.values) rows

  abbrev with_rows : List (ℕ × Row) → Tables
  with_rows rows = before ++ (at, record t { rows = rows }) ∷ behind

  abbrev front : List LinkRow
  front = links before ++ of_rows first

  abbrev back : List LinkRow
  back = of_rows rest ++ links behind

  with-it : links (with_rows (first ++ r ∷ rest)) ≡ front ++ (row_links t.columns r.1.values ++ back)
  with-it =
      flat_map-append (λ (t : List ℕ × Rows). table_links t.1) before ((at, record t { rows = first ++ r ∷ rest }) ∷ behind)
      ∙ ap (λ (ls : List LinkRow). links before ++ (ls ++ links behind)) (flat_map-append (λ (r : ℕ × Row). row_links t.columns r.1.values) first (r ∷ rest))
      ∙ ap (λ (ls : List LinkRow). links before ++ ls) (append_assoc (of_rows first) (row_links t.columns r.1.values ++ of_rows rest) (links behind))
      ∙ sym (append_assoc (links before) (of_rows first) ((row_links t.columns r.1.values ++ of_rows rest) ++ links behind))
      ∙ ap (λ (ls : List LinkRow). front ++ ls) (append_assoc (row_links t.columns r.1.values) (of_rows rest) (links behind))

  without-it : links (with_rows (first ++ rest)) ≡ front ++ back
  without-it =
      flat_map-append (λ (t : List ℕ × Rows). table_links t.1) before ((at, record t { rows = first ++ rest }) ∷ behind)
      ∙ ap (λ (ls : List LinkRow). links before ++ (ls ++ links behind)) (flat_map-append (λ (r : ℕ × Row). row_links t.columns r.1.values) first rest)
      ∙ ap (λ (ls : List LinkRow). links before ++ ls) (append_assoc (of_rows first) (of_rows rest) (links behind))
      ∙ sym (append_assoc (links before) (of_rows first) (of_rows rest ++ links behind))

  abbrev link_of : LinkRow → LinkNo
  link_of l = l.link

  abbrev own : List LinkNo
  own = map link_of (row_links t.columns r.1.values)

  differ-around : differ same_number (map link_of (links (with_rows (first ++ r ∷ rest)))) ≡ (links_are_new (with_rows (first ++ rest)) own && differ same_number (map link_of (links (with_rows (first ++ rest)))))
  differ-around =
      ap (λ (ls : List LinkRow). differ same_number (map link_of ls)) with-it
      ∙ ap (λ (ns : List LinkNo). differ same_number ns) (map-append link_of front (row_links t.columns r.1.values ++ back) ∙ ap (λ (ns : List LinkNo). map link_of front ++ ns) (map-append link_of (row_links t.columns r.1.values) back))
      ∙ differ_between same_number numbers-symmetric (map link_of front) own (map link_of back)
      ∙ ap (λ (ns : List LinkNo). (none_in same_number ns own && differ same_number own) && differ same_number ns) (sym (map-append link_of front back) ∙ ap (λ (ls : List LinkRow). map link_of ls) (sym without-it))
      ∙ ap (λ b. (b && differ same_number own) && differ same_number (map link_of (links (with_rows (first ++ rest))))) (none-number own (links (with_rows (first ++ rest))))

-- ONE ROW MORE
module _ (tables : Tables) (name : List ℕ) (number : ℕ) (t : Rows) (row : Row) (at : table_of tables name ≡ Some t) (is : row_of t.rows number ≡ Some row) (stand : rules_stand false t.columns ≡ true) where
  abbrev less : Rows
  less = record t { rows = without_row t.rows number }

  step-by : (f : Found tables name t) (s : Split t.rows number row) → fits tables ≡ (row_stands (with_table tables name less) less row && fits (with_table tables name less))
  step-by f s =
      ap (λ (ts : Tables). fits ts) (f.whole ∙ ap (λ (rs : List (ℕ × Row)). f.before ++ (f.at, record t { rows = rs }) ∷ f.behind) s.whole)
      ∙ ap (λ b. b && differ same_number (map (λ l. l.link) (links (f.before ++ (f.at, record t { rows = s.before ++ (s.at, row) ∷ s.behind }) ∷ f.behind))))
      (all-around (λ (t : List ℕ × Rows). table_fits t.1) f.before f.behind (f.at, record t { rows = s.before ++ (s.at, row) ∷ s.behind })
      ∙ ap (λ b. b && rows_fit (f.before ++ f.behind)) (table-around t.columns stand s.before s.behind (s.at, row)))
      ∙ ap (λ b. (((fits_columns t.columns row.values && key_is_new t.columns (s.before ++ s.behind) row.values) && table_fits (record t { rows = s.before ++ s.behind })) && rows_fit (f.before ++ f.behind)) && b)
      (differ-around f.before f.behind f.at t s.before s.behind (s.at, row))
      ∙ gathered (fits_columns t.columns row.values) (key_is_new t.columns (s.before ++ s.behind) row.values) (table_fits (record t { rows = s.before ++ s.behind })) (rows_fit (f.before ++ f.behind))
      (links_are_new (f.before ++ (f.at, record t { rows = s.before ++ s.behind }) ∷ f.behind) (map (λ l. l.link) (row_links t.columns row.values)))
      (differ same_number (map (λ l. l.link) (links (f.before ++ (f.at, record t { rows = s.before ++ s.behind }) ∷ f.behind))))
      ∙ ap (λ b. row_stands (f.before ++ (f.at, record t { rows = s.before ++ s.behind }) ∷ f.behind) (record t { rows = s.before ++ s.behind }) row && (b && differ same_number (map (λ l. l.link) (links (f.before ++ (f.at, record t { rows = s.before ++ s.behind }) ∷ f.behind)))))
      (sym (all-around (λ (t : List ℕ × Rows). table_fits t.1) f.before f.behind (f.at, record t { rows = s.before ++ s.behind })))
      ∙ ap (λ (rs : List (ℕ × Row)). row_stands (f.before ++ (f.at, record t { rows = rs }) ∷ f.behind) (record t { rows = rs }) row && fits (f.before ++ (f.at, record t { rows = rs }) ∷ f.behind)) (sym s.without)
      ∙ ap (λ (ts : Tables). row_stands ts less row && fits ts) (sym (f.exchanged less))

  pub step : fits tables ≡ (row_stands (with_table tables name less) less row && fits (with_table tables name less))
  step = step-by (found tables name t at) (split t.rows number row is)

  -- the table of the name is there yet
  pub there : table_of (with_table tables name less) name ≡ Some less
  there = still tables at
    where
      still : (ts : Tables) → table_of ts name ≡ Some t → table_of (with_table ts name less) name ≡ Some less
      still [] e = cc e
      still (x ∷ xs) e = by (bytes_eq name x.0) refl e (λ h. still xs h)
        where
          by : (b : Bool) → bytes_eq name x.0 ≡ b → cond b (Some x.1) (table_of xs name) ≡ Some t → (table_of xs name ≡ Some t → table_of (with_table xs name less) name ≡ Some less) → table_of (cond b ((x.0, less) ∷ xs) (x ∷ with_table xs name less)) name ≡ Some less
          by true e is go = ap (λ b. cond b (Some less) (table_of xs name)) e
          by false e is go = ap (λ b. cond b (Some x.1) (table_of (with_table xs name less) name)) e ∙ go is
