use Rattle.std.proofs.Common.{◌≡◌, ◌++◌, [], false, drop, map, reverse, Ok}
use Rattle.meaning_sql.specs.Faults.{and_then}
use Rattle.meaning_statements.specs.Creating.{columns_made}
use Rattle.sql_change.proofs.creating.put_columns.Given as goal

-- the columns so far, and those that the later definitions make behind them
abbrev pub invariant-loop-def : goal.invariant-loop-def
invariant-loop-def l = and_then (columns_made (reverse (map (λ c. c.name) l.made)) l.keyed (drop l.def-index l.defs)) (λ cs. Ok (l.made ++ cs)) ≡ columns_made [] false l.defs
