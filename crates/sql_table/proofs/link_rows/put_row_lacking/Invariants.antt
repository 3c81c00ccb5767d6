use Rattle.std.proofs.Common.{◌≡◌, ◌++◌, drop}
use Rattle.meaning_tables.specs.Links.{lacking, links, row_links}
use Rattle.sql_table.proofs.link_rows.put_row_lacking.Given as goal

abbrev pub invariant-loop-i : goal.invariant-loop-i
invariant-loop-i l = l.made ++ lacking (row_links (drop l.i l.columns) (drop l.i l.row.values)) (links l.others) ≡ l.fn.made ++ lacking (row_links l.columns l.row.values) (links l.others)
