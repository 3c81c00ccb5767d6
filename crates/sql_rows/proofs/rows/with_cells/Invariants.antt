use Rattle.std.proofs.Common.{◌≡◌, ◌++◌, drop}
use Rattle.meaning_statements.specs.Changing.{with_cells}
use Rattle.sql_rows.proofs.rows.with_cells.Given as goal

abbrev pub invariant-loop-i : goal.invariant-loop-i
invariant-loop-i l = l.values ++ with_cells l.places l.news l.i (drop l.i l.old.values) ≡ with_cells l.places l.news 0 l.old.values
