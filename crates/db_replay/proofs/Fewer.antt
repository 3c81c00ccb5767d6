-- Tables with fewer rows, which fit where those with more do.
use Rattle.std.proofs.Common.{◌≡◌, ℕ, ◌&&◌, Bool, true, false, not, cond, List, [], ◌∷◌, ◌++◌, map, Some, None, is_none, refl, sym, ◌∙◌, subst}
use Rattle.std.specs.Cmp.Lexicographic.{pointwise}
use Rattle.std.specs.List.{filter, flat_map, list_all, list_any}
use Rattle.std.proofs.lemmas.Bool.{and_from, and_parts, not-true, not_from_false, or_from, or_parts}
use Rattle.dl_base.specs.declared.column.Column.{Column}
use Rattle.dl_base.specs.declared.value.LinkRow.{LinkRow}
use Rattle.dl_base.specs.declared.value.Row.{Row}
use Rattle.dl_base.specs.declared.value.Value.{Value}
use Rattle.meaning_tables.specs.Fits.{differ, fits, fits_columns, is_key, key_of, repeated, repeated_key, rows_fit, same_key, table_fits}
use Rattle.meaning_tables.specs.Links.{links, row_links, same_number, table_links}
use Rattle.meaning_tables.specs.Tables.{Rows, Tables}
use Rattle.db_replay.proofs.Differ.{fresh, fresh_all}
use Rattle.db_replay.proofs.Symmetric.{keys-symmetric}

-- some of the items of a list, in its order
pub data Part {A : Type 0} : List A → List A → Type 0 where
  ends : Part [] []
  skips : {xs ys : List A} (y : A) → Part xs ys → Part xs (y ∷ ys)
  takes : {xs ys : List A} (x : A) → Part xs ys → Part (x ∷ xs) (x ∷ ys)

module _ {A : Type 0} where
  pub part_any : (p : A → Bool) {xs ys : List A} → Part xs ys → list_any p ys ≡ false → list_any p xs ≡ false
  part_any p ends none = none
  part_any p (skips {xs = xs} {ys = ys} y part) none = part_any p part (or_parts (p y) (list_any p ys) none).1
  part_any p (takes {xs = xs} {ys = ys} x part) none = let parts = or_parts (p x) (list_any p ys) none in or_from (p x) (list_any p xs) parts.0 (part_any p part parts.1)

  pub part_all : (p : A → Bool) {xs ys : List A} → Part xs ys → list_all p ys ≡ true → list_all p xs ≡ true
  part_all p ends all = all
  part_all p (skips {xs = xs} {ys = ys} y part) all = part_all p part (and_parts (p y) (list_all p ys) all).1
  part_all p (takes {xs = xs} {ys = ys} x part) all = let parts = and_parts (p x) (list_all p ys) all in and_from (p x) (list_all p xs) parts.0 (part_all p part parts.1)

  pub part_differ : (same : A → A → Bool) {xs ys : List A} → Part xs ys → differ same ys ≡ true → differ same xs ≡ true
  part_differ same ends all = all
  part_differ same (skips {xs = xs} {ys = ys} y part) all = part_differ same part (and_parts (not (list_any (same y) ys)) (differ same ys) all).1
  part_differ same (takes {xs = xs} {ys = ys} x part) all =
      let parts = and_parts (not (list_any (same x) ys)) (differ same ys) all in
      and_from (not (list_any (same x) xs)) (differ same xs) (not_from_false (list_any (same x) xs) (part_any (same x) part (not-true (list_any (same x) ys) parts.0))) (part_differ same part parts.1)

  pub part_itself : (xs : List A) → Part xs xs
  part_itself [] = ends
  part_itself (x ∷ xs) = takes x (part_itself xs)

  part-none : (xs : List A) → Part [] xs
  part-none [] = ends
  part-none (x ∷ xs) = skips x (part-none xs)

  part-behind : (front : List A) {xs ys : List A} → Part xs ys → Part xs (front ++ ys)
  part-behind [] part = part
  part-behind (x ∷ front) part = skips x (part-behind front part)

  part-append : {xs ys us vs : List A} → Part xs ys → Part us vs → Part (xs ++ us) (ys ++ vs)
  part-append ends more = more
  part-append (skips y part) more = skips y (part-append part more)
  part-append (takes x part) more = takes x (part-append part more)

  -- where one test passes no more than another
  pub part_filter : (p q : A → Bool) → ((a : A) → p a ≡ true → q a ≡ true) → (xs : List A) → Part (filter p xs) (filter q xs)
  part_filter p q of [] = ends
  part_filter p q of (x ∷ xs) = by (p x) (q x) (of x) (part_filter p q of xs)
    where
      by : (b c : Bool) → (b ≡ true → c ≡ true) → Part (filter p xs) (filter q xs) → Part (cond b (x ∷ filter p xs) (filter p xs)) (cond c (x ∷ filter q xs) (filter q xs))
      by true true of part = takes x part
      by true false of part = absurd (clash (of refl))
        where
          clash : false ≡ true → ⊥
          clash e = cc e
      by false true of part = skips x part
      by false false of part = part

pub part_map : {A B : Type 0} (f : A → B) {xs ys : List A} → Part xs ys → Part (map f xs) (map f ys)
part_map f ends = ends
part_map f (skips y part) = skips (f y) (part_map f part)
part_map f (takes x part) = takes (f x) (part_map f part)

part-flat : {A B : Type 0} (f : A → List B) {xs ys : List A} → Part xs ys → Part (flat_map f xs) (flat_map f ys)
part-flat f ends = ends
part-flat f (skips y part) = part-behind (f y) (part-flat f part)
part-flat f (takes x part) = part-append (part_itself (f x)) (part-flat f part)

-- tables, of which some have gone, some have fewer rows, and some without rows have come
pub data Fewer : Tables → Tables → Type 0 where
  empty : Fewer [] []
  goes : {less more : Tables} (t : List ℕ × Rows) → Fewer less more → Fewer less (t ∷ more)
  comes : {less more : Tables} (s : List ℕ × Rows) → s.1.rows ≡ [] → Fewer less more → Fewer (s ∷ less) more
  stays : {less more : Tables} (s t : List ℕ × Rows) → s.1.columns ≡ t.1.columns → Part s.1.rows t.1.rows → Fewer less more → Fewer (s ∷ less) (t ∷ more)

-- keys of rows

pub repeats_none : (columns : List Column) (keys : List (List Value)) (rows : List (ℕ × Row)) → is_none (repeated columns keys rows) ≡ fresh (pointwise same_key) keys (map (λ r. key_of columns r.1.values) rows)
repeats_none columns keys [] = refl
repeats_none columns keys (r ∷ rs) = by (list_any (pointwise same_key (key_of columns r.1.values)) keys) (repeats_none columns (key_of columns r.1.values ∷ keys) rs)
  where
    by : (b : Bool) → is_none (repeated columns (key_of columns r.1.values ∷ keys) rs) ≡ fresh (pointwise same_key) (key_of columns r.1.values ∷ keys) (map (λ r. key_of columns r.1.values) rs)
        → is_none (cond b (Some r.0) (repeated columns (key_of columns r.1.values ∷ keys) rs)) ≡ (not b && fresh (pointwise same_key) (key_of columns r.1.values ∷ keys) (map (λ r. key_of columns r.1.values) rs))
    by true e = refl
    by false e = e

pub keys_differ : (columns : List Column) (rows : List (ℕ × Row)) → is_none (repeated columns [] rows) ≡ differ (pointwise same_key) (map (λ r. key_of columns r.1.values) rows)
keys_differ columns rows = repeats_none columns [] rows ∙ fresh_all (pointwise same_key) keys-symmetric (map (λ r. key_of columns r.1.values) rows)

-- tables that fit

table-part : (s t : Rows) → s.columns ≡ t.columns → Part s.rows t.rows → table_fits t ≡ true → table_fits s ≡ true
table-part s t same part fit =
    let parts = and_parts (list_all (λ r. fits_columns t.columns r.1.values) t.rows) (is_none (repeated_key t)) fit in
    subst (λ (cs : List Column). (list_all (λ r. fits_columns cs r.1.values) s.rows && is_none (cond (list_any (λ c. is_key c.rule) cs) (repeated cs [] s.rows) None)) ≡ true) (sym same)
    (and_from (list_all (λ r. fits_columns t.columns r.1.values) s.rows) (is_none (cond (list_any (λ c. is_key c.rule) t.columns) (repeated t.columns [] s.rows) None)) (part_all (λ r. fits_columns t.columns r.1.values) part parts.0) (by (list_any (λ c. is_key c.rule) t.columns) parts.1))
  where
    by : (b : Bool) → is_none (cond b (repeated t.columns [] t.rows) None) ≡ true → is_none (cond b (repeated t.columns [] s.rows) None) ≡ true
    by false e = refl
    by true e =
        keys_differ t.columns s.rows
        ∙ part_differ (pointwise same_key) (part_map (λ r. key_of t.columns r.1.values) part) (sym (keys_differ t.columns t.rows) ∙ e)

table-bare : (s : Rows) → s.rows ≡ [] → table_fits s ≡ true
table-bare s none = subst (λ (rs : List (ℕ × Row)). (list_all (λ r. fits_columns s.columns r.1.values) rs && is_none (cond (list_any (λ c. is_key c.rule) s.columns) (repeated s.columns [] rs) None)) ≡ true) (sym none) (by (list_any (λ c. is_key c.rule) s.columns))
  where
    by : (b : Bool) → is_none (cond b (repeated s.columns [] []) None) ≡ true
    by true = refl
    by false = refl

rows-fewer : {less more : Tables} → Fewer less more → rows_fit more ≡ true → rows_fit less ≡ true
rows-fewer empty fit = fit
rows-fewer (goes {less = less} {more = more} t few) fit = rows-fewer few (and_parts (table_fits t.1) (rows_fit more) fit).1
rows-fewer (comes {less = less} {more = more} s is few) fit = and_from (table_fits s.1) (rows_fit less) (table-bare s.1 is) (rows-fewer few fit)
rows-fewer (stays {less = less} {more = more} s t same part few) fit =
    let parts = and_parts (table_fits t.1) (rows_fit more) fit in
    and_from (table_fits s.1) (rows_fit less) (table-part s.1 t.1 same part parts.0) (rows-fewer few parts.1)

links-fewer : {less more : Tables} → Fewer less more → Part (links less) (links more)
links-fewer empty = ends
links-fewer (goes t few) = part-behind (table_links t.1) (links-fewer few)
links-fewer (comes {less = less} {more = more} s is few) = subst (λ (rs : List (ℕ × Row)). Part (flat_map (λ r. row_links s.1.columns r.1.values) rs ++ links less) (links more)) (sym is) (links-fewer few)
links-fewer (stays {less = less} {more = more} s t same part few) =
    subst (λ (cs : List Column). Part (flat_map (λ r. row_links cs r.1.values) s.1.rows ++ links less) (links (t ∷ more))) (sym same)
    (part-append (part-flat (λ r. row_links t.1.columns r.1.values) part) (links-fewer few))

-- FEWER ROWS FIT
pub fewer_fit : {less more : Tables} → Fewer less more → fits more ≡ true → fits less ≡ true
fewer_fit {less = less} {more = more} few fit =
    let parts = and_parts (rows_fit more) (differ same_number (map (λ l. l.link) (links more))) fit in
    and_from (rows_fit less) (differ same_number (map (λ l. l.link) (links less))) (rows-fewer few parts.0)
    (part_differ same_number (part_map (λ (l : LinkRow). l.link) (links-fewer few)) parts.1)
