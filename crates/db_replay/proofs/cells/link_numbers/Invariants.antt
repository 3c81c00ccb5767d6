use Rattle.std.proofs.Common.{◌≡◌, ◌++◌, drop, map}
use Rattle.meaning_tables.specs.Links.{row_links}
use Rattle.db_replay.proofs.cells.link_numbers.Given as goal

abbrev pub invariant-loop-i : goal.invariant-loop-i
invariant-loop-i l = l.made ++ map (λ x. x.link) (row_links (drop l.i l.columns) (drop l.i l.row.values)) ≡ map (λ x. x.link) (row_links l.columns l.row.values)
