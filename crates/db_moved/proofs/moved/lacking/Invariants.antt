use Rattle.std.proofs.Common.{◌≡◌, ◌++◌, drop}
use Rattle.meaning_tables.specs.Links.{lacking, links}
use Rattle.db_moved.proofs.moved.lacking.Given as goal

abbrev pub invariant-loop-i : goal.invariant-loop-i
invariant-loop-i l = l.made ++ lacking (links (drop l.i l.tables)) (links l.others) ≡ lacking (links l.tables) (links l.others)
