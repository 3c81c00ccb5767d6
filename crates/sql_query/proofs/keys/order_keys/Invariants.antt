use Rattle.std.proofs.Common.{◌≡◌, ◌++◌, drop, Ok}
use Rattle.meaning_sql.specs.Faults.{and_then, try_map}
use Rattle.sql_query.specs.Items.{key_found}
use Rattle.sql_query.proofs.keys.order_keys.Given as goal

-- the keys so far, and those of what is left
abbrev pub invariant-loop-key : goal.invariant-loop-key
invariant-loop-key l = and_then (try_map (key_found l.columns l.items l.scope) (drop l.key-index l.order)) (λ ks. Ok (l.made ++ ks)) ≡ try_map (key_found l.columns l.items l.scope) l.order
