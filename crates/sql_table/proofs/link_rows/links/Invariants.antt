use Rattle.std.proofs.Common.{◌≡◌, ◌++◌, drop}
use Rattle.meaning_tables.specs.Links.{links}
use Rattle.sql_table.proofs.link_rows.links.Given as goal

abbrev pub invariant-loop-i : goal.invariant-loop-i
invariant-loop-i l = l.made ++ links (drop l.i l.tables) ≡ links l.tables
