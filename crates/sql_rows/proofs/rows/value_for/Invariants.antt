use Rattle.std.proofs.Common.{◌≡◌, drop}
use Rattle.meaning_statements.specs.Changing.{value_for}
use Rattle.sql_rows.proofs.rows.value_for.Given as goal

abbrev pub invariant-loop-j : goal.invariant-loop-j
invariant-loop-j l = value_for l.j (drop l.j l.places) l.tuple l.place ≡ value_for 0 l.places l.tuple l.place
