-- What an operand has to be, and what becomes of one that was refused.
use Rattle.std.specs.Prelude.{◌≡◌, Bool, true, Result, is_err, OnErr}
use Rattle.dl_base.specs.declared.sql_fault.SqlFault.{SqlFault}
use Rattle.meaning_sql.specs.declared.SqlType.{SqlType}
use Rattle.meaning_sql.specs.Faults.{◌>>=◌, Computes}
use Rattle.meaning_sql.specs.Types.{is_truth, is_int, is_text, is_link, is_cell}
use Rattle.sql_expr.specs.declared.types.Operand.{Operand}
use Rattle.sql_expr.specs.declared.types.Operand.TheVariants as operands

abbrev pub suits : Operand → SqlType → Bool
suits operands.Truth t = is_truth t
suits operands.Int t = is_int t
suits operands.Text t = is_text t
suits operands.Link t = is_link t
suits operands.Cell t = is_cell t

-- a call that was handed x is refused only where the meaning is, want of memory too, if x was
abbrev pub RefusesAs : {X Y : Type 0} → Result X SqlFault → (X → Result Y SqlFault) → Result Y SqlFault → Type 0
RefusesAs {X} x step result = (m : Result X SqlFault) → Computes (λ v. v) x m → OnErr x (is_err m ≡ true) → OnErr result (is_err (m >>= step) ≡ true)
