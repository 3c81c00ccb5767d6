-- What becomes of operands that are looked at where they stand.
use Rattle.std.specs.Prelude.{◌≡◌, ◌≢◌, Result}
use Rattle.dl_base.specs.declared.sql_fault.SqlFault.{SqlFault}
use Rattle.dl_base.specs.declared.sql_fault.SqlFault.TheVariants as faults
use Rattle.dl_base.specs.declared.value.Value.{Value}
use Rattle.meaning_sql.specs.Faults.{◌>>=◌, Computes}
use Rattle.sql_operators.specs.declared.seen.Seen.{Seen}
use Rattle.sql_operators.specs.Seeing.{seen}

-- a call that was handed what an operand gave returned what step makes of it, whatever meaning that has
abbrev pub FollowsSeen : Result Seen SqlFault → (Value → Result Value SqlFault) → Result Seen SqlFault → Type 0
FollowsSeen x step result = (m : Result Value SqlFault) → Computes seen x m → Computes seen result (m >>= step)

-- the same of a call that returned a value of its own
abbrev pub GathersSeen : Result Seen SqlFault → (Value → Result Value SqlFault) → Result Value SqlFault → Type 0
GathersSeen x step result = (m : Result Value SqlFault) → Computes seen x m → Computes (λ v. v) result (m >>= step)

-- a fault is told as it stands somewhere, unless memory ran out
abbrev pub IsTold : SqlFault → SqlFault → Type 0
IsTold fault e = e ≢ faults.Memory → e ≡ fault
