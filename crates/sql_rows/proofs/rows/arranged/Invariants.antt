use Rattle.std.proofs.Common.{◌≡◌, ◌++◌, drop}
use Rattle.meaning_statements.specs.Changing.{arranged}
use Rattle.sql_rows.proofs.rows.arranged.Given as goal

abbrev pub invariant-loop-i : goal.invariant-loop-i
invariant-loop-i l = l.values ++ arranged l.i (drop l.i l.columns) l.places l.tuple ≡ arranged 0 l.columns l.places l.tuple
