use Rattle.std.proofs.Common.{◌≡◌, ◌++◌, drop}
use Rattle.std.specs.List.{flat_map}
use Rattle.meaning_tables.specs.Links.{row_links, table_links}
use Rattle.sql_table.proofs.link_rows.put_table_links.Given as goal

abbrev pub invariant-loop-i : goal.invariant-loop-i
invariant-loop-i l = l.made ++ flat_map (λ r. row_links l.table.columns r.1.values) (drop l.i l.table.rows) ≡ l.fn.made ++ table_links l.table
