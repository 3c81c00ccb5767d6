use Rattle.std.proofs.Common.{◌≡◌, ◌++◌, drop}
use Rattle.meaning_statements.specs.Changing.{all_places}
use Rattle.sql_change.proofs.places.all_places.Given as goal

abbrev pub invariant-loop-i : goal.invariant-loop-i
invariant-loop-i l = l.made ++ all_places l.i (drop l.i l.columns) ≡ all_places 0 l.columns
