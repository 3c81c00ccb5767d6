use Rattle.bk_losing.specs.Losing.{lost_by}
use Rattle.bk_losing.proofs.Without.{TablesSo}
use Rattle.bk_losing.proofs.losing.Losing.set_tables.Given as goal

abbrev pub invariant-loop-i : goal.invariant-loop-i
invariant-loop-i l = TablesSo (lost_by l.self) l.target l.i l.made.tables
