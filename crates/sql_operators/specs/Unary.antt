-- Operators of one operand.
use Rattle.std.specs.Prelude.{Bool, true, false, not, Option, Some, Result, Ok, if◌then◌else◌}
use Rattle.dl_base.specs.declared.column.Options.{Options}
use Rattle.dl_base.specs.declared.sql_fault.SqlFault.{SqlFault}
use Rattle.dl_base.specs.declared.value.Value.{Value}
use Rattle.meaning_sql.specs.declared.Context.{Context}
use Rattle.meaning_sql.specs.Datalinks.{accessed}
use Rattle.meaning_sql.specs.Operators.{truth_of, of_truth, not3, negated, is_null}
use Rattle.sql_operators.specs.declared.unary.Unary.{Unary}
use Rattle.sql_operators.specs.declared.unary.Unary.TheVariants as unaries

-- what an operator makes of its one operand, which is a cell of a column under these options, if it is one
abbrev pub unary_value : Context → Option Options → Unary → Value → Result Value SqlFault
unary_value context under unaries.Not x = Ok (of_truth (not3 (truth_of x)))
unary_value context under unaries.Minus x = negated x
unary_value context under (unaries.IsNull is) x = Ok (of_truth (Some (if is then is_null x else not (is_null x))))
unary_value context under (unaries.Access part) x = Ok (accessed context under part x)

-- what shows a part of a datalink
abbrev pub is_accessor : Unary → Bool
is_accessor unaries.Not = false
is_accessor unaries.Minus = false
is_accessor (unaries.IsNull is) = false
is_accessor (unaries.Access part) = true
