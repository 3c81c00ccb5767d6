use Rattle.std.proofs.Common.{◌≡◌, ◌++◌, drop}
use Rattle.std.specs.List.{flat_map}
use Rattle.meaning_merge.specs.Restoring.{lost_in}
use Rattle.bk_losing.specs.Losing.{lost_by, table_lost}
use Rattle.bk_losing.proofs.losing.Losing.put_table.Given as goal

abbrev pub invariant-loop-i : goal.invariant-loop-i
invariant-loop-i l = l.made ++ flat_map (λ r. lost_in (lost_by l.self) l.name r.0 l.table.columns r.1.values) (drop l.i l.table.rows) ≡ l.fn.made ++ table_lost (lost_by l.self) (l.name, l.table)
