use Rattle.std.proofs.Common.{◌≡◌, drop, length}
use Rattle.std.specs.Prelude.{◌==◌}
use Rattle.dl_base.specs.declared.sql_fault.SqlFault.TheVariants as faults
use Rattle.meaning_sql.specs.Faults.{ensure}
use Rattle.sql_change.specs.Steps.{cleared}
use Rattle.sql_change.proofs.places.check_lengths.Given as goal

abbrev pub invariant-loop-tuple : goal.invariant-loop-tuple
invariant-loop-tuple l = cleared (λ es. ensure (length es == length l.places) faults.Arity) (drop l.tuple-index l.tuples) ≡ cleared (λ es. ensure (length es == length l.places) faults.Arity) l.tuples
