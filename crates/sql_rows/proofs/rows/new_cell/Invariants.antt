use Rattle.std.proofs.Common.{◌≡◌, drop}
use Rattle.meaning_statements.specs.Changing.{new_cell}
use Rattle.sql_rows.proofs.rows.new_cell.Given as goal

abbrev pub invariant-loop-j : goal.invariant-loop-j
invariant-loop-j l = new_cell l.j (drop l.j l.places) l.news l.place l.old ≡ new_cell 0 l.places l.news l.place l.old
