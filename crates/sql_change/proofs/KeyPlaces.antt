-- Columns without a key.
use Rattle.std.proofs.Common.{◌≡◌, ◌||◌, Bool, true, false, List, [], ◌∷◌, refl, ◌∙◌}
use Rattle.std.specs.List.{list_any}
use Rattle.dl_base.specs.declared.column.Column.{Column}
use Rattle.dl_base.specs.declared.value.Value.{Value}
use Rattle.meaning_tables.specs.Fits.{key_of, is_key}
use Rattle.sql_change.proofs.KeyColumns.{other_column}

first_not : (first later : Bool) → (first || later) ≡ false → first ≡ false
first_not true later none = cc none
first_not false later none = refl

rest_not : (first later : Bool) → (first || later) ≡ false → later ≡ false
rest_not true later none = cc none
rest_not false later none = none

-- columns without a key have none of a row's values
pub no_key_of : (cs : List Column) (vs : List Value) → list_any (λ c. is_key c.rule) cs ≡ false → key_of cs vs ≡ []
no_key_of [] vs none = refl
no_key_of (c ∷ cs) [] none = refl
no_key_of (c ∷ cs) (v ∷ vs) none = other_column c cs v vs (first_not (is_key c.rule) (list_any (λ c. is_key c.rule) cs) none) ∙ no_key_of cs vs (rest_not (is_key c.rule) (list_any (λ c. is_key c.rule) cs) none)
