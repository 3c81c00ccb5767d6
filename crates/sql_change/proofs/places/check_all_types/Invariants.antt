use Rattle.std.proofs.Common.{◌≡◌, drop}
use Rattle.meaning_statements.specs.Changing.{assigned}
use Rattle.sql_change.specs.Steps.{cleared}
use Rattle.sql_change.proofs.places.check_all_types.Given as goal

abbrev pub invariant-loop-one : goal.invariant-loop-one
invariant-loop-one l = cleared (assigned l.columns l.places) (drop l.one-index l.types) ≡ cleared (assigned l.columns l.places) l.types
