use Rattle.std.proofs.Common.{take}
use Rattle.meaning_tables.specs.Links.{links}
use Rattle.sql_table.specs.Lacking.{CoversLacking}
use Rattle.sql_table.proofs.link_rows.lacking_rows.Given as goal

abbrev pub invariant-loop-i : goal.invariant-loop-i
invariant-loop-i l = CoversLacking (links l.others) (take l.i l.entries) l.numbers
