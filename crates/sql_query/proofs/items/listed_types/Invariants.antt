use Rattle.std.proofs.Common.{◌≡◌, ◌++◌, drop, Ok}
use Rattle.meaning_sql.specs.Faults.{and_then, try_map}
use Rattle.sql_query.specs.Items.{item_type}
use Rattle.sql_query.proofs.items.listed_types.Given as goal

-- the types so far, and those of what is left
abbrev pub invariant-loop-item : goal.invariant-loop-item
invariant-loop-item l = and_then (try_map (item_type l.columns l.scope) (drop l.item-index l.items)) (λ ts. Ok (l.made ++ ts)) ≡ try_map (item_type l.columns l.scope) l.items
