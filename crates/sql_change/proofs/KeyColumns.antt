-- The values in key columns.
use Rattle.std.proofs.Common.{◌≡◌, true, false, List, [], ◌∷◌, refl}
use Rattle.dl_base.specs.declared.column.Column.{Column}
use Rattle.dl_base.specs.declared.value.Value.{Value}
use Rattle.meaning_tables.specs.Fits.{key_of, is_key}

pub no_key_past_the_end : (cs : List Column) → key_of cs [] ≡ []
no_key_past_the_end [] = refl
no_key_past_the_end (c ∷ cs) = refl

pub key_column : (c : Column) (cs : List Column) (v : Value) (vs : List Value) → is_key c.rule ≡ true → key_of (c ∷ cs) (v ∷ vs) ≡ v ∷ key_of cs vs
key_column c cs v vs is = rw is refl

pub other_column : (c : Column) (cs : List Column) (v : Value) (vs : List Value) → is_key c.rule ≡ false → key_of (c ∷ cs) (v ∷ vs) ≡ key_of cs vs
other_column c cs v vs is = rw is refl
