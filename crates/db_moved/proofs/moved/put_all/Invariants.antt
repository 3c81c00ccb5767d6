use Rattle.std.proofs.Common.{◌≡◌, ◌++◌, drop}
use Rattle.std.specs.List.{flat_map}
use Rattle.meaning_tables.specs.Links.{lacking, links, row_links, table_links}
use Rattle.db_moved.proofs.moved.put_all.Given as goal

abbrev pub invariant-loop-i : goal.invariant-loop-i
invariant-loop-i l = l.made ++ lacking (flat_map (λ r. row_links l.table.columns r.1.values) (drop l.i l.table.rows)) (links l.others) ≡ l.fn.made ++ lacking (table_links l.table) (links l.others)
