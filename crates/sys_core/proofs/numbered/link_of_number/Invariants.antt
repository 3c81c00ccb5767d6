use Rattle.std.proofs.Common.{◌≡◌, drop}
use Rattle.std.specs.List.{find}
use Rattle.meaning_tables.specs.Links.{links}
use Rattle.sys_core.specs.Numbered.{of_number}
use Rattle.sys_core.proofs.numbered.link_of_number.Given as goal

-- in the tables that are left the same is found as in all
abbrev pub invariant-loop-i : goal.invariant-loop-i
invariant-loop-i l = find (of_number l.link) (links (drop l.i l.tables.tables)) ≡ find (of_number l.link) (links l.tables.tables)
