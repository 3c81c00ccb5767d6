use Rattle.std.proofs.Common.{◌≡◌}
use Rattle.sql_change.specs.Touched.{numbers_from}
use Rattle.sql_change.proofs.inserting.numbers_from.Given as goal

abbrev pub invariant-loop-i : goal.invariant-loop-i
invariant-loop-i l = l.numbers ≡ numbers_from l.first l.i
