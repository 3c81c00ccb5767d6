-- Values that are looked at where they stand.
use Rattle.std.specs.Prelude.{Result}
use Rattle.dl_base.specs.declared.sql_fault.SqlFault.{SqlFault}
use Rattle.dl_base.specs.declared.value.Value.{Value}
use Rattle.meaning_sql.specs.Faults.{Computes}
use Rattle.sql_operators.specs.declared.seen.Seen.{Seen}
use Rattle.sql_operators.specs.declared.seen.Seen.TheVariants as sights

abbrev pub seen : Seen → Value
seen (sights.There v) = v.now
seen (sights.Made v) = v

-- a value that a call made is seen as such
abbrev pub IsSeen : Result Value SqlFault → Result Seen SqlFault → Type 0
IsSeen made result = (m : Result Value SqlFault) → Computes (λ v. v) made m → Computes seen result m
