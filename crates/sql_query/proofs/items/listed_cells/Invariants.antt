use Rattle.std.proofs.Common.{◌≡◌, ◌++◌, drop, Ok}
use Rattle.meaning_sql.specs.Faults.{and_then, try_map}
use Rattle.sql_query.specs.Items.{item_at}
use Rattle.sql_query.proofs.items.listed_cells.Given as goal

-- the cells so far, and those of what is left
abbrev pub invariant-loop-item : goal.invariant-loop-item
invariant-loop-item l = and_then (try_map (item_at l.columns l.context l.group l.row) (drop l.item-index l.items)) (λ vs. Ok (l.values ++ vs)) ≡ try_map (item_at l.columns l.context l.group l.row) l.items
