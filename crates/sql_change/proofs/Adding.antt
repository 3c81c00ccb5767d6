-- One row more of a table with one key column.
use Rattle.std.proofs.Common.{◌≡◌, ◌+◌, ◌<◌, ◌++◌, ℕ, suc, Bool, true, false, List, [], ◌∷◌, length, get_or, Option, Some, None, is_some, is_none, Ok, Err, if◌then◌else◌, refl, sym, ap, ◌∙◌, subst, append_assoc, arith}
use Rattle.std.specs.Prelude.{slice_get}
use Rattle.std.specs.List.{list_any, list_all}
use Rattle.std.proofs.lemmas.Bool.{and_parts}
use Rattle.std.proofs.lemmas.Option.{slice_get-get_or}
use Rattle.dl_base.specs.declared.column.Column.{Column}
use Rattle.dl_base.specs.declared.sql_fault.SqlFault.TheVariants as faults
use Rattle.dl_base.specs.declared.value.Row.{Row}
use Rattle.dl_base.specs.declared.value.Value.{Value}
use Rattle.dl_base.specs.declared.value.Value.TheVariants as values
use Rattle.meaning_statements.specs.Changing.{keys_hold, duplicate}
use Rattle.meaning_tables.specs.First.{first_number, has_key}
use Rattle.meaning_tables.specs.Fits.{is_key, repeated, repeated_key, table_fits, fits_columns}
use Rattle.meaning_tables.specs.Tables.{Rows, with_inserted}
use Rattle.sql_rows.specs.NewRows.{counted}
use Rattle.sql_keys.specs.Keys.{IsKeyAt}
use Rattle.sql_change.specs.Parts.{grown_table}
use Rattle.sql_change.proofs.Standing.{is_repeated, not_repeated, has_key_column, is_within}

none_of : (found : Option ℕ) → is_none found ≡ true → found ≡ None
none_of None is = refl
none_of (Some n) is = cc is

-- rows that fit repeat no key
pub none_repeated : (t : Rows) → table_fits t ≡ true → list_any (λ (c : Column). is_key c.rule) t.columns ≡ true → repeated t.columns [] t.rows ≡ None
none_repeated t fits keyed =
    let none = none_of (repeated_key t) (and_parts (list_all (λ (r : ℕ × Row). fits_columns t.columns r.1.values) t.rows) (is_none (repeated_key t)) fits).1 in
    ap (λ (b : Bool). if b then repeated t.columns [] t.rows else None) (sym keyed) ∙ none

pub fitting_keys_hold : (t : Rows) → table_fits t ≡ true → keys_hold t ≡ Ok true
fitting_keys_hold t fits = ap (λ (found : Option ℕ). duplicate found) (none_of (repeated_key t) (and_parts (list_all (λ (r : ℕ × Row). fits_columns t.columns r.1.values) t.rows) (is_none (repeated_key t)) fits).1)

none_hold : (b : Bool) (found : Option ℕ) → found ≡ None → duplicate (if b then found else None) ≡ Ok true
none_hold true found none = rw none refl
none_hold false found none = refl

-- rows that repeat no key have keys that differ
pub all_hold : (t : Rows) → repeated t.columns [] t.rows ≡ None → keys_hold t ≡ Ok true
all_hold t none = none_hold (list_any (λ (c : Column). is_key c.rule) t.columns) (repeated t.columns [] t.rows) none

-- the value of a row at a place is a key of the table
abbrev pub Stands : Rows → ℕ → Row → Bool → Type 0
Stands t place row answer = (key : Value) → slice_get row.values place ≡ Some key → answer ≡ is_some (first_number (has_key t.columns key) t.rows)

module _ (t : Rows) (place : ℕ) (at : IsKeyAt t.columns place) (row : Row) (wide : length row.values ≡ length t.columns) where
  abbrev key : Value
  key = get_or row.values place values.Null

  there : slice_get row.values place ≡ Some key
  there = slice_get-get_or row.values place values.Null (subst (λ (n : ℕ). place < n) (sym wide) (is_within t.columns place at))

  pub still_none : repeated t.columns [] t.rows ≡ None → Stands t place row false → (number : ℕ) → repeated t.columns [] (t.rows ++ (number, row) ∷ []) ≡ None
  still_none none stands number = not_repeated t.columns place at key t.rows number row none there (sym (stands key there))

  pub is_refused : repeated t.columns [] t.rows ≡ None → Stands t place row true → (number next : ℕ) (rest : List (ℕ × Row)) → keys_hold (record t { next = next; rows = t.rows ++ (number, row) ∷ rest }) ≡ Err (faults.DupKey number)
  is_refused none stands number next rest =
      ap (λ (b : Bool). duplicate (if b then repeated t.columns [] (t.rows ++ (number, row) ∷ rest) else None)) (has_key_column t.columns place at)
      ∙ ap (λ (found : Option ℕ). duplicate found) (is_repeated t.columns place at key t.rows number row rest none there (sym (stands key there)))

pub push_length : {A : Type 0} (xs : List A) (x : A) → length (xs ++ x ∷ []) ≡ length xs + 1
push_length [] x = refl
push_length (y ∷ ys) x = omega (arith, push_length ys x)

-- the first of more rows is put in before the others
pub one_grown : (t : Rows) (row : Row) (rest : List Row) → grown_table (with_inserted t row) (counted (t.next + 1) rest) (length rest) ≡ grown_table t (counted t.next (row ∷ rest)) (length (row ∷ rest))
one_grown t row rest =
    ap (λ (n : ℕ). record t { next = n; rows = (t.rows ++ (t.next, row) ∷ []) ++ counted (t.next + 1) rest }) (counts t.next (length rest))
    ∙ ap (λ (rs : List (ℕ × Row)). record t { next = t.next + suc (length rest); rows = rs }) (append_assoc t.rows ((t.next, row) ∷ []) (counted (t.next + 1) rest))
  where
    counts : (a b : ℕ) → a + 1 + b ≡ a + suc b
    counts a b = omega arith
