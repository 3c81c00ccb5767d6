use Rattle.std.proofs.Common.{◌≡◌, drop}
use Rattle.std.specs.List.{zip}
use Rattle.meaning_sql.specs.Faults.{typed}
use Rattle.meaning_statements.specs.Assigning.{is_assignable, kind_of_column}
use Rattle.sql_change.specs.Steps.{cleared}
use Rattle.sql_change.proofs.places.check_types.Given as goal

abbrev pub invariant-loop-i : goal.invariant-loop-i
invariant-loop-i l =
    cleared (λ p. typed (is_assignable (kind_of_column l.columns p.0) p.1) p.1) (zip (drop l.i l.places) (drop l.i l.types))
    ≡ cleared (λ p. typed (is_assignable (kind_of_column l.columns p.0) p.1) p.1) (zip l.places l.types)
