-- What a row that fits says of the types of its values.
use Rattle.std.proofs.Common.{◌≡◌, ◌&&◌, ℕ, zero, suc, Bool, true, false, not, List, [], ◌∷◌, map, length, Option, Some, None, is_some, is_none, refl, ap}
use Rattle.dl_base.specs.declared.column.Column.{Column}
use Rattle.dl_base.specs.declared.column.Kind.{Kind}
use Rattle.dl_base.specs.declared.column.Kind.TheVariants as kinds
use Rattle.dl_base.specs.declared.value.Value.{Value}
use Rattle.dl_base.specs.declared.value.Value.TheVariants as values
use Rattle.meaning_sql.specs.Columns.{Columns, kind_at}
use Rattle.meaning_sql.specs.Fitting.{FitsColumns, is_of_type}
use Rattle.meaning_sql.specs.Fitting as expression
use Rattle.meaning_sql.specs.Types.{kind_type}
use Rattle.meaning_sql.specs.Values.{cell}
use Rattle.meaning_tables.specs.Fits.{fits_kind, fits_rule, fits_columns}
use Rattle.sql_invariants.proofs.Rows.{as_row, IsTypedAt}

kind_typed : (kind : Kind) (v : Value) → fits_kind kind v ≡ true → is_of_type (kind_type kind) v ≡ true
kind_typed kind values.Null h = refl
kind_typed kinds.Int (values.Int z) h = refl
kind_typed kinds.Int (values.Text t) h = h
kind_typed kinds.Int (values.Link d) h = h
kind_typed (kinds.Text n) (values.Int z) h = h
kind_typed (kinds.Text n) (values.Text t) h = refl
kind_typed (kinds.Text n) (values.Link d) h = h
kind_typed kinds.Free (values.Int z) h = h
kind_typed kinds.Free (values.Text t) h = h
kind_typed kinds.Free (values.Link d) h = refl
kind_typed (kinds.Linked o) (values.Int z) h = h
kind_typed (kinds.Linked o) (values.Text t) h = h
kind_typed (kinds.Linked o) (values.Link d) h = refl

none_is_not_some : {A : Type 0} (o : Option A) → is_none o ≡ true → not (is_some o) ≡ true
none_is_not_some None h = refl
none_is_not_some (Some x) h = h

-- for expressions a text fits whatever its length
kind_fits : (kind : Kind) (v : Value) → fits_kind kind v ≡ true → expression.fits_kind kind v ≡ true
kind_fits kind values.Null h = refl
kind_fits kinds.Int (values.Int z) h = refl
kind_fits kinds.Int (values.Text t) h = h
kind_fits kinds.Int (values.Link d) h = h
kind_fits (kinds.Text n) (values.Int z) h = h
kind_fits (kinds.Text n) (values.Text t) h = refl
kind_fits (kinds.Text n) (values.Link d) h = h
kind_fits kinds.Free (values.Int z) h = h
kind_fits kinds.Free (values.Text t) h = h
kind_fits kinds.Free (values.Link d) h = none_is_not_some d.link h
kind_fits (kinds.Linked o) (values.Int z) h = h
kind_fits (kinds.Linked o) (values.Text t) h = h
kind_fits (kinds.Linked o) (values.Link d) h = h

-- the parts of a test of a row
record Parts (a b c : Bool) : Type 0 where
  first : a ≡ true
  second : b ≡ true
  third : c ≡ true

parts : (a b c : Bool) → (a && b && c) ≡ true → Parts a b c
parts true true true h = record { first = refl; second = refl; third = refl }
parts true true false h = absurd (cc)
parts true false c h = absurd (cc)
parts false b c h = absurd (cc)

pub values_typed : (columns : List Column) (vs : List Value) → fits_columns columns vs ≡ true → (m : ℕ) → IsTypedAt columns m (cell (as_row vs) m)
unfolding cell
values_typed [] [] fits m = refl
values_typed [] (v ∷ vs) fits m = absurd (cc)
values_typed (c ∷ cs) [] fits m = absurd (cc)
values_typed (c ∷ cs) (v ∷ vs) fits zero = kind_typed c.kind v (parts (fits_kind c.kind v) (fits_rule c.rule v) (fits_columns cs vs) fits).first
values_typed (c ∷ cs) (v ∷ vs) fits (suc m) = values_typed cs vs (parts (fits_kind c.kind v) (fits_rule c.rule v) (fits_columns cs vs) fits).third m

-- the columns as expressions see them
abbrev pub named : List ℕ → List Column → Columns
named name columns = map (λ c. (name, c)) columns

one_each : (name : List ℕ) (columns : List Column) (vs : List Value) → fits_columns columns vs ≡ true → length vs ≡ length (named name columns)
one_each name [] [] fits = refl
one_each name [] (v ∷ vs) fits = absurd (cc)
one_each name (c ∷ cs) [] fits = absurd (cc)
one_each name (c ∷ cs) (v ∷ vs) fits = ap (λ n. suc n) (one_each name cs vs (parts (fits_kind c.kind v) (fits_rule c.rule v) (fits_columns cs vs) fits).third)

of_kind : (name : List ℕ) (columns : List Column) (vs : List Value) → fits_columns columns vs ≡ true → (i : ℕ) → expression.fits_kind (kind_at (named name columns) i) (cell (as_row vs) i) ≡ true
unfolding cell
of_kind name [] [] fits i = refl
of_kind name [] (v ∷ vs) fits i = absurd (cc)
of_kind name (c ∷ cs) [] fits i = absurd (cc)
of_kind name (c ∷ cs) (v ∷ vs) fits zero = kind_fits c.kind v (parts (fits_kind c.kind v) (fits_rule c.rule v) (fits_columns cs vs) fits).first
of_kind name (c ∷ cs) (v ∷ vs) fits (suc i) = of_kind name cs vs (parts (fits_kind c.kind v) (fits_rule c.rule v) (fits_columns cs vs) fits).third i

-- a row of a table fits the columns that expressions see
pub fits_own : (name : List ℕ) (columns : List Column) (vs : List Value) → fits_columns columns vs ≡ true → FitsColumns (named name columns) (as_row vs)
fits_own name columns vs fits = record { one_each = one_each name columns vs fits; of_kind = of_kind name columns vs fits }
