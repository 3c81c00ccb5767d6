-- Keys that stand in rows which repeat none.
use Rattle.std.proofs.Common.{◌≡◌, ◌<◌, ◌≤◌, ◌||◌, ◌&&◌, ◌++◌, ℕ, zero, suc, Bool, true, false, List, [], ◌∷◌, length, Option, Some, None, is_some, if◌then◌else◌, refl, sym, ap, ◌∙◌, ⊎_elim, arith}
use Rattle.std.specs.Prelude.{slice_get}
use Rattle.std.specs.Cmp.Lexicographic.{pointwise}
use Rattle.std.specs.List.{list_any}
use Rattle.std.proofs.lemmas.Bool.{cases_lt}
use Rattle.std.proofs.lemmas.Option.{slice_get_past}
use Rattle.dl_base.specs.declared.column.Column.{Column}
use Rattle.dl_base.specs.declared.value.Row.{Row}
use Rattle.dl_base.specs.declared.value.Value.{Value}
use Rattle.dl_base.specs.declared.value.Value.TheVariants as values
use Rattle.meaning_sql.specs.Faults.{option_list}
use Rattle.meaning_tables.specs.First.{first_number, has_key}
use Rattle.meaning_tables.specs.Fits.{same_key, is_key, key_of, repeated}
use Rattle.sql_change.specs.Keys.{StoodKeys}
use Rattle.sql_keys.specs.Keys.{IsKeyAt}
use Rattle.sql_change.proofs.KeyPlaces.{no_key_of}

or_true : (b : Bool) → (b || true) ≡ true
or_true true = refl
or_true false = refl

or_false : (b : Bool) → (b || false) ≡ b
or_false true = refl
or_false false = refl

-- the keys of rows before others, the last first
abbrev pub stood : List Column → StoodKeys → List (ℕ × Row) → StoodKeys
stood columns keys [] = keys
stood columns keys (r ∷ rs) = stood columns (key_of columns r.1.values ∷ keys) rs

-- where no row repeats a key, those behind them are asked for the keys of all
pub behind : (columns : List Column) (keys : StoodKeys) (rows rest : List (ℕ × Row)) → repeated columns keys rows ≡ None → repeated columns keys (rows ++ rest) ≡ repeated columns (stood columns keys rows) rest
behind columns keys [] rest none = refl
behind columns keys (r ∷ rs) rest none = by (list_any (pointwise same_key (key_of columns r.1.values)) keys) none (behind columns (key_of columns r.1.values ∷ keys) rs rest)
  where
    by : (b : Bool) → (if b then Some r.0 else repeated columns (key_of columns r.1.values ∷ keys) rs) ≡ None
        → (repeated columns (key_of columns r.1.values ∷ keys) rs ≡ None → repeated columns (key_of columns r.1.values ∷ keys) (rs ++ rest) ≡ repeated columns (stood columns (key_of columns r.1.values ∷ keys) rs) rest)
        → (if b then Some r.0 else repeated columns (key_of columns r.1.values ∷ keys) (rs ++ rest)) ≡ repeated columns (stood columns (key_of columns r.1.values ∷ keys) rs) rest
    by true none later = cc none
    by false none later = later none

-- one value as a key
one_key : (key : Value) (found : Option Value) → pointwise same_key (key ∷ []) (option_list found) ≡ list_any (same_key key) (option_list found)
one_key key None = refl
one_key key (Some v) = by (same_key key v)
  where
    by : (b : Bool) → (b && true) ≡ (b || false)
    by true = refl
    by false = refl

module _ (columns : List Column) (place : ℕ) (at : IsKeyAt columns place) where
  as_one : (key : Value) (vs : List Value) → pointwise same_key (key ∷ []) (key_of columns vs) ≡ list_any (same_key key) (key_of columns vs)
  as_one key vs = rw (at vs) (one_key key (slice_get vs place))

  -- a key is among those that have stood where it was there before, or a row has it
  stands : (key : Value) (keys : StoodKeys) (rows : List (ℕ × Row))
      → list_any (pointwise same_key (key ∷ [])) (stood columns keys rows) ≡ (list_any (pointwise same_key (key ∷ [])) keys || is_some (first_number (has_key columns key) rows))
  stands key keys [] = sym (or_false (list_any (pointwise same_key (key ∷ [])) keys))
  stands key keys (r ∷ rs) =
      stands key (key_of columns r.1.values ∷ keys) rs
      ∙ ap (λ (b : Bool). (b || list_any (pointwise same_key (key ∷ [])) keys) || is_some (first_number (has_key columns key) rs)) (as_one key r.1.values)
      ∙ by (list_any (same_key key) (key_of columns r.1.values)) (list_any (pointwise same_key (key ∷ [])) keys) (first_number (has_key columns key) rs)
    where
      by : (b among : Bool) (later : Option ℕ) → ((b || among) || is_some later) ≡ (among || is_some (if b then Some r.0 else later))
      by true among later = sym (or_true among)
      by false among later = refl

  -- the next row's key is asked of the first row that has it
  asked : (key : Value) (rows : List (ℕ × Row)) (number : ℕ) (row : Row) (rest : List (ℕ × Row)) → repeated columns [] rows ≡ None → slice_get row.values place ≡ Some key
      → repeated columns [] (rows ++ (number, row) ∷ rest)
      ≡ (if is_some (first_number (has_key columns key) rows) then Some number else repeated columns (key_of columns row.values ∷ stood columns [] rows) rest)
  asked key rows number row rest none is =
      behind columns [] rows ((number, row) ∷ rest) none
      ∙ ap (λ (b : Bool). if b then Some number else repeated columns (key_of columns row.values ∷ stood columns [] rows) rest)
      (ap (λ (k : List Value). list_any (pointwise same_key k) (stood columns [] rows)) (at row.values ∙ ap (λ (v : Option Value). option_list v) is) ∙ stands key [] rows)

  pub is_repeated : (key : Value) (rows : List (ℕ × Row)) (number : ℕ) (row : Row) (rest : List (ℕ × Row)) → repeated columns [] rows ≡ None → slice_get row.values place ≡ Some key
      → is_some (first_number (has_key columns key) rows) ≡ true → repeated columns [] (rows ++ (number, row) ∷ rest) ≡ Some number
  is_repeated key rows number row rest none is there = rw (asked key rows number row rest none is, there) refl

  pub not_repeated : (key : Value) (rows : List (ℕ × Row)) (number : ℕ) (row : Row) → repeated columns [] rows ≡ None → slice_get row.values place ≡ Some key
      → is_some (first_number (has_key columns key) rows) ≡ false → repeated columns [] (rows ++ (number, row) ∷ []) ≡ None
  not_repeated key rows number row none is new = rw (asked key rows number row [] none is, new) refl

  -- rows of NULL alone, which have a key of so many values
  abbrev nulls : ℕ → List Value
  nulls zero = []
  nulls (suc n) = values.Null ∷ nulls n

  null_at : (n : ℕ) → slice_get (nulls (suc n)) n ≡ Some values.Null
  null_at zero = refl
  null_at (suc n) = null_at n

  nulls_length : (n : ℕ) → length (nulls n) ≡ n
  nulls_length zero = refl
  nulls_length (suc n) = ap (λ (m : ℕ). suc m) (nulls_length n)

  one_null : key_of columns (nulls (suc place)) ≡ values.Null ∷ []
  one_null = at (nulls (suc place)) ∙ ap (λ (v : Option Value). option_list v) (null_at place)

  clash : (ks : List Value) (v : Value) → ks ≡ v ∷ [] → ks ≡ [] → ⊥
  clash [] v is none = cc is
  clash (k ∷ ks) v is none = cc none

  -- there is a key column
  pub has_key_column : list_any (λ (c : Column). is_key c.rule) columns ≡ true
  has_key_column = by (list_any (λ (c : Column). is_key c.rule) columns) refl
    where
      by : (b : Bool) → list_any (λ (c : Column). is_key c.rule) columns ≡ b → b ≡ true
      by true is = refl
      by false is = absurd (clash (key_of columns (nulls (suc place))) values.Null one_null (no_key_of columns (nulls (suc place)) is))

  past_the_end : (cs : List Column) (n : ℕ) → length cs ≤ n → key_of cs (nulls n) ≡ key_of cs (nulls (length cs))
  past_the_end [] n le = refl
  past_the_end (c ∷ cs) zero le = absurd (omega (arith, le))
  past_the_end (c ∷ cs) (suc n) le = ap (λ (ks : List Value). if is_key c.rule then values.Null ∷ ks else ks) (past_the_end cs n (omega (arith, le)))

  -- its place is one of a column
  pub is_within : place < length columns
  is_within =
      ⊎_elim
      (λ (within : place < length columns). within)
      (λ (past : length columns ≤ place).
      absurd (clash (key_of columns (nulls (suc place))) values.Null one_null
      (past_the_end columns (suc place) (omega (arith, past))
      ∙ at (nulls (length columns))
      ∙ ap (λ (v : Option Value). option_list v) (slice_get_past (nulls (length columns)) place (rw (nulls_length (length columns)) past)))))
      (cases_lt place (length columns))
