-- Cells of a row that has not one for each column.
use Rattle.std.proofs.Common.{◌≡◌, ℕ, suc, ◌&&◌, Bool, true, false, not, cond, List, [], ◌∷◌, length, Option, Some, None, is_none, is_some, refl, ap}
use Rattle.std.specs.List.{list_all}
use Rattle.std.proofs.lemmas.Bool.{and_right}
use Rattle.dl_base.specs.declared.column.Column.{Column}
use Rattle.dl_base.specs.declared.value.Row.{Row}
use Rattle.dl_base.specs.declared.value.Value.{Value}
use Rattle.meaning_tables.specs.First.{first_number, has_key}
use Rattle.meaning_tables.specs.Fits.{fits_columns, fits_kind, fits_rule, is_key, key_of}

pub other_length : (cs : List Column) (vs : List Value) → (length cs ≡ length vs → ⊥) → fits_columns cs vs ≡ false
other_length [] [] other = absurd (other refl)
other_length [] (v ∷ vs) other = refl
other_length (c ∷ cs) [] other = refl
other_length (c ∷ cs) (v ∷ vs) other = and_right (fits_kind c.kind v && fits_rule c.rule v) (fits_columns cs vs) (other_length cs vs (λ e. other (ap suc e)))

pub no_key_past_the_end : (cs : List Column) → key_of cs [] ≡ []
no_key_past_the_end [] = refl
no_key_past_the_end (c ∷ cs) = refl

module _ (columns : List Column) (rows : List (ℕ × Row)) where
  abbrev is_new : Value → Bool
  is_new v = is_none (first_number (has_key columns v) rows)

  -- the key of a row, one column after another
  pub key_step : (c : Column) (cs : List Column) (v : Value) (vs : List Value) → list_all is_new (key_of (c ∷ cs) (v ∷ vs)) ≡ (not (is_key c.rule && is_some (first_number (has_key columns v) rows)) && list_all is_new (key_of cs vs))
  key_step c cs v vs = by (is_key c.rule) (first_number (has_key columns v) rows) refl
    where
      by : (k : Bool) (o : Option ℕ) → first_number (has_key columns v) rows ≡ o → list_all is_new (cond k (v ∷ key_of cs vs) (key_of cs vs)) ≡ (not (k && is_some o) && list_all is_new (key_of cs vs))
      by false o e = refl
      by true None e = ap (λ (o : Option ℕ). is_none o && list_all is_new (key_of cs vs)) e
      by true (Some n) e = ap (λ (o : Option ℕ). is_none o && list_all is_new (key_of cs vs)) e
