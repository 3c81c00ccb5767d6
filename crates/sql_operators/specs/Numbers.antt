-- What becomes of a number that may have passed 64 bits.
use Rattle.std.specs.Prelude.{ℤ, Option, Some, None, Result, Ok, Err}
use Rattle.dl_base.specs.declared.sql_fault.SqlFault.{SqlFault}
use Rattle.dl_base.specs.declared.sql_fault.SqlFault.TheVariants as faults
use Rattle.dl_base.specs.declared.value.Value.{Value}
use Rattle.dl_base.specs.declared.value.Value.TheVariants as values

abbrev pub int_or_overflow : Option ℤ → Result Value SqlFault
int_or_overflow (Some z) = Ok (values.Int z)
int_or_overflow None = Err faults.Overflow
