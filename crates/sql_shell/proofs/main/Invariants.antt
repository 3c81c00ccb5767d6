use Rattle.meaning_tables.specs.Fits.{RowsFit}
use Rattle.sql_shell.proofs.main.Given as goal

-- the rows of the tables fit
abbrev pub invariant-loop-line : goal.invariant-loop-line
invariant-loop-line l = (goal.iterator-loop-line).can_next l.line-iterator × (goal.iterator-loop-line).is_finite l.line-iterator × RowsFit l.tables
