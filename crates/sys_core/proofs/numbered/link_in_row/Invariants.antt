use Rattle.std.proofs.Common.{◌≡◌, drop}
use Rattle.std.specs.List.{find}
use Rattle.meaning_tables.specs.Links.{row_links}
use Rattle.sys_core.specs.Numbered.{of_number}
use Rattle.sys_core.proofs.numbered.link_in_row.Given as goal

-- in the cells that are left the same is found as in all
abbrev pub invariant-loop-i : goal.invariant-loop-i
invariant-loop-i l = find (of_number l.link) (row_links (drop l.i l.columns) (drop l.i l.row.values)) ≡ find (of_number l.link) (row_links l.columns l.row.values)
