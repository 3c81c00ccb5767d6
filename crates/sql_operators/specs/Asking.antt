-- What is known of an operator once its left side is.
use Rattle.std.specs.Prelude.{◌≡◌, Bool, true, false, Option, Some, None, Result, Ok, Err}
use Rattle.dl_base.specs.declared.sql_fault.SqlFault.{SqlFault}
use Rattle.dl_base.specs.declared.value.Value.{Value}
use Rattle.dl_base.specs.declared.statement.Op.{Op}
use Rattle.dl_base.specs.declared.statement.Op.TheVariants as ops
use Rattle.meaning_sql.specs.Faults.{◌>>=◌}
use Rattle.meaning_sql.specs.Operators.{binary}
use Rattle.sql_operators.specs.Seeing.{seen}
use Rattle.sql_operators.specs.declared.operator.Ask.{Ask}
use Rattle.sql_operators.specs.declared.operator.Ask.TheVariants as asks
use Rattle.sql_operators.specs.declared.seen.Seen.{Seen}

abbrev pub is_arithmetic : Op → Bool
is_arithmetic ops.Add = true
is_arithmetic ops.Sub = true
is_arithmetic ops.Mul = true
is_arithmetic ops.Div = true
is_arithmetic ops.Or = false
is_arithmetic ops.And = false
is_arithmetic ops.Eq = false
is_arithmetic ops.Ne = false
is_arithmetic ops.Lt = false
is_arithmetic ops.Le = false
is_arithmetic ops.Gt = false
is_arithmetic ops.Ge = false

-- what the left side alone decides, whatever the right one would be, or that the right one is asked
abbrev pub Decided : Op → Value → Option Value → Type 0
Decided op x None = (r : Result Value SqlFault) → binary op x r ≡ (r >>= λ y. binary op x (Ok y))
Decided op x (Some v) = (r : Result Value SqlFault) → binary op x r ≡ Ok v

-- the left side is refused or decides, or it is x and the right side is asked
abbrev pub Asked : Op → Result Seen SqlFault → Ask → Type 0
Asked op left (asks.Refused e) = left ≡ Err e
Asked op left (asks.Decided v) = (x : Seen) × (left ≡ Ok x) × ((right : Result Value SqlFault) → binary op (seen x) right ≡ Ok v)
Asked op left (asks.Asks x) = (left ≡ Ok x) × ((right : Result Value SqlFault) → binary op (seen x) right ≡ (right >>= λ y. binary op (seen x) (Ok y)))
