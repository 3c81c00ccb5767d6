-- A table is read as it was written, and its image stands.
use Rattle.std.proofs.Common.{◌≡◌, ℕ, ◌+◌, ◌≤◌, ◌<◌, ◌&&◌, ◌||◌, ◌==◌, Bool, true, false, not, nat_lt, nat_le, List, [], ◌∷◌, ◌++◌, length, get_or, drop, map, bytes_eq, refl, sym, ◌∙◌, ap, arith}
use Rattle.std.proofs.lemmas.Bool.Decides.{nat_tests}
use Rattle.std.proofs.lemmas.List.{drop_more}
use Rattle.std.proofs.lemmas.List.Folds.{list_all-append}
use Rattle.std.specs.Cmp.Lexicographic.{pointwise}
use Rattle.std.specs.List.{AllByRecursion, IsDistinct, list_all, list_any}
use Rattle.meaning_system.specs.Writes.{image_of}
use Rattle.dl_base.specs.declared.value.Row.{Row}
use Rattle.dl_base.specs.declared.value.Value.{Value}
use Rattle.dl_codec.specs.declared.backups.TableImage.{TableImage}
use Rattle.meaning_areas.specs.Commits.{rising}
use Rattle.meaning_areas.specs.Copies.{image_stands, table_of_image}
use Rattle.meaning_tables.specs.Fits.{differ}
use Rattle.meaning_tables.specs.Tables.{Rise, Rows, Tables}

-- the row of some values, and back
abbrev pub valued : ℕ × List Value → ℕ × Row
valued r = (r.0, record { values = r.1 })

abbrev pub values_of : ℕ × Row → ℕ × List Value
values_of r = (r.0, r.1.values)

rows-back : (rs : List (ℕ × Row)) → map valued (map values_of rs) ≡ rs
rows-back [] = refl
rows-back (r ∷ rs) = ap (λ (xs : List (ℕ × Row)). r ∷ xs) (rows-back rs)

table-back : (t : List ℕ × Rows) → table_of_image (image_of t) ≡ t
table-back t = ap (λ (rows : List (ℕ × Row)). (t.0, record { version = t.1.version; columns = t.1.columns; next = t.1.next; rows = rows })) (rows-back t.1.rows)

pub tables-back : (ts : Tables) → map table_of_image (map image_of ts) ≡ ts
tables-back [] = refl
tables-back (t ∷ ts) = λ i. table-back t i ∷ tables-back ts i

pub names-back : (ts : Tables) → map (λ t. t.name) (map image_of ts) ≡ map (λ t. t.0) ts
names-back [] = refl
names-back (t ∷ ts) = ap (λ (ns : List (List ℕ)). t.0 ∷ ns) (names-back ts)

-- names that are distinct differ

none-same : (x : List ℕ) (xs : List (List ℕ)) → AllByRecursion (λ y. pointwise ◌==◌ x y ≡ false) xs → list_any (bytes_eq x) xs ≡ false
none-same x [] all = refl
none-same x (y ∷ ys) all = ap (λ b. b || list_any (bytes_eq x) ys) all.0 ∙ none-same x ys all.1

all_true : (a b : Bool) → a ≡ true → b ≡ true → (a && b) ≡ true
all_true true b e f = f
all_true false b e f = absurd cc

pub names_differ : (xs : List (List ℕ)) → IsDistinct (pointwise ◌==◌) xs → differ bytes_eq xs ≡ true
unfolding IsDistinct
names_differ [] distinct = refl
names_differ (x ∷ xs) distinct = all_true _ _ (ap not (none-same x xs distinct.0)) (names_differ xs distinct.1)

-- row numbers that rise and are below the next one, as a relation and as a test

rise-up : (first below : ℕ) (rs : List (ℕ × Row)) → Rise first below rs → rising first (map (λ (r : ℕ × List Value). r.0) (map values_of rs)) ≡ true
rise-up first below [] rise = refl
rise-up first below (r ∷ rs) rise = all_true _ _ (at_least first r.0 rise.0) (rise-up (r.0 + 1) below rs rise.2)
  where
    at_least : (a b : ℕ) → a ≤ b → nat_le a b ≡ true
    at_least a b le = grind (arith, nat_tests)

rise-below : (first below : ℕ) (rs : List (ℕ × Row)) → Rise first below rs → list_all (λ (r : ℕ × List Value). nat_lt r.0 below) (map values_of rs) ≡ true
rise-below first below [] rise = refl
rise-below first below (r ∷ rs) rise = all_true _ _ (less r.0 below rise.1) (rise-below (r.0 + 1) below rs rise.2)
  where
    less : (a b : ℕ) → a < b → nat_lt a b ≡ true
    less a b lt = grind (arith, nat_tests)

pub stands : (t : List ℕ × Rows) → Rise 0 t.1.next t.1.rows → image_stands (image_of t) ≡ true
stands t rise = all_true _ _ (rise-up 0 t.1.next t.1.rows rise) (rise-below 0 t.1.next t.1.rows rise)

-- the test of row numbers from one on
abbrev pub numbers_stand : ℕ → ℕ → List (ℕ × List Value) → Bool
numbers_stand first below rs = rising first (map (λ r. r.0) rs) && list_all (λ r. nat_lt r.0 below) rs

module _ (first below : ℕ) (rs : List (ℕ × List Value)) (i : ℕ) (r : ℕ × List Value) (lt : i < length rs) (is : r ≡ get_or rs i r) where
  next : numbers_stand first below (drop i rs) ≡ ((nat_le first r.0 && rising (r.0 + 1) (map (λ x. x.0) (drop (i + 1) rs))) && (nat_lt r.0 below && list_all (λ x. nat_lt x.0 below) (drop (i + 1) rs)))
  next = ap (numbers_stand first below) (drop_more rs i r lt) ∙ ap (λ (x : ℕ × List Value). numbers_stand first below (x ∷ drop (i + 1) rs)) (sym is)

  -- the rows from a place on do not stand, by the first of them
  pub stand_low : r.0 < first → numbers_stand first below (drop i rs) ≡ false
  stand_low low = next ∙ by (nat_le first r.0) _ _ (not_le first r.0 low)
    where
      not_le : (a b : ℕ) → b < a → nat_le a b ≡ false
      not_le a b less = grind (arith, nat_tests)

      by : (a b d : Bool) → a ≡ false → ((a && b) && d) ≡ false
      by false b d e = refl
      by true b d e = absurd cc

  pub stand_high : below ≤ r.0 → numbers_stand first below (drop i rs) ≡ false
  stand_high high = next ∙ by _ (nat_lt r.0 below) _ (not_lt r.0 below high)
    where
      not_lt : (a b : ℕ) → b ≤ a → nat_lt a b ≡ false
      not_lt a b le = grind (arith, nat_tests)

      by : (a b d : Bool) → b ≡ false → (a && (b && d)) ≡ false
      by false b d e = refl
      by true false d e = refl
      by true true d e = absurd cc

  -- they stand where those behind it do
  pub stand_next : first ≤ r.0 → r.0 < below → numbers_stand (r.0 + 1) below (drop (i + 1) rs) ≡ numbers_stand first below (drop i rs)
  stand_next low high = sym (next ∙ by (nat_le first r.0) _ (nat_lt r.0 below) _ (is_le first r.0 low) (is_lt r.0 below high))
    where
      is_le : (a b : ℕ) → a ≤ b → nat_le a b ≡ true
      is_le a b le = grind (arith, nat_tests)

      is_lt : (a b : ℕ) → a < b → nat_lt a b ≡ true
      is_lt a b less = grind (arith, nat_tests)

      by : (a b d e : Bool) → a ≡ true → d ≡ true → ((a && b) && (d && e)) ≡ (b && e)
      by true b true e p q = refl
      by false b d e p q = absurd cc
      by true b false e p q = absurd cc

pub numbered : (first below : ℕ) (rs : List (ℕ × List Value)) → numbers_stand first below rs ≡ true → Rise first below (map valued rs)
numbered first below [] e = tt
numbered first below (r ∷ rs) e =
    let four = parts (nat_le first r.0) (rising (r.0 + 1) (map (λ x. x.0) rs)) (nat_lt r.0 below) (list_all (λ x. nat_lt x.0 below) rs) e in
    (low first r.0 four.0, below_it r.0 below four.2, numbered (r.0 + 1) below rs (all_true _ _ four.1 four.3))
  where
    parts : (a b d e : Bool) → ((a && b) && (d && e)) ≡ true → (a ≡ true) × (b ≡ true) × (d ≡ true) × (e ≡ true)
    parts true true true true p = (refl, refl, refl, refl)
    parts false b d e p = absurd cc
    parts true false d e p = absurd cc
    parts true true false e p = absurd cc
    parts true true true false p = absurd cc

    low : (a b : ℕ) → nat_le a b ≡ true → a ≤ b
    low a b le = grind (arith, nat_tests)

    below_it : (a b : ℕ) → nat_lt a b ≡ true → a < b
    below_it a b lt = grind (arith, nat_tests)

-- one image more that stands
pub stand_more : (xs : List TableImage) (x : TableImage) → list_all image_stands xs ≡ true → image_stands x ≡ true → list_all image_stands (xs ++ x ∷ []) ≡ true
stand_more xs x all is = list_all-append image_stands xs (x ∷ []) ∙ all_true _ _ all (all_true _ _ is refl)
