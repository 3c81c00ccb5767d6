-- Rows that fit their columns, and values of a type.
use Rattle.std.specs.Prelude.{◌≡◌, ℕ, Bool, true, false, not, length, nat_lt, is_some, Result, Ok, Err, ℤ, pos, negsuc}
use Rattle.dl_base.specs.declared.sql_fault.SqlFault.{SqlFault}
use Rattle.dl_base.specs.declared.sql_fault.SqlFault.TheVariants as faults
use Rattle.dl_base.specs.declared.column.Kind.{Kind}
use Rattle.dl_base.specs.declared.column.Kind.TheVariants as kinds
use Rattle.dl_base.specs.declared.value.Row.{Row}
use Rattle.dl_base.specs.declared.value.Value.{Value}
use Rattle.dl_base.specs.declared.value.Value.TheVariants as values
use Rattle.meaning_sql.specs.declared.SqlType.{SqlType}
use Rattle.meaning_sql.specs.declared.SqlType.TheVariants as types
use Rattle.meaning_sql.specs.Columns.{Columns, kind_at}
use Rattle.meaning_sql.specs.Values.{cell}

-- a value is NULL or of a column's kind, and a datalink has a link number exactly under link control
abbrev pub fits_kind : Kind → Value → Bool
fits_kind k values.Null = true
fits_kind kinds.Int (values.Int z) = true
fits_kind (kinds.Text n) (values.Text t) = true
fits_kind kinds.Free (values.Link d) = not (is_some d.link)
fits_kind (kinds.Linked o) (values.Link d) = is_some d.link
fits_kind k x = false

-- a row has a value for each column, of its kind
pub record FitsColumns (columns : Columns) (row : Row) : Type 0 where
  pub one_each : length row.values ≡ length columns
  pub of_kind : (i : ℕ) → fits_kind (kind_at columns i) (cell row i) ≡ true

abbrev pub is_truth_number : ℤ → Bool
is_truth_number (pos n) = nat_lt n 2
is_truth_number (negsuc n) = false

-- a value is NULL or of the type
abbrev pub is_of_type : SqlType → Value → Bool
is_of_type t values.Null = true
is_of_type types.Int (values.Int z) = true
is_of_type types.Text (values.Text t) = true
is_of_type types.Link (values.Link d) = true
is_of_type types.Truth (values.Int z) = is_truth_number z
is_of_type t x = false

-- why the evaluation of an expression may be refused
abbrev pub is_of_evaluation : SqlFault → Bool
is_of_evaluation faults.Overflow = true
is_of_evaluation faults.ZeroDivide = true
is_of_evaluation (faults.BadLink why) = true
is_of_evaluation e = false

-- a value of the type, or such a refusal
abbrev pub IsTyped : SqlType → Result Value SqlFault → Type 0
IsTyped t (Ok x) = is_of_type t x ≡ true
IsTyped t (Err e) = is_of_evaluation e ≡ true
