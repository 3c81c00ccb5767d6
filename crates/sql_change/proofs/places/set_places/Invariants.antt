use Rattle.std.proofs.Common.{◌≡◌, ◌++◌, [], drop, take, reverse, Ok}
use Rattle.meaning_sql.specs.Faults.{and_then}
use Rattle.meaning_statements.specs.Changing.{set_places}
use Rattle.sql_change.proofs.places.set_places.Given as goal

abbrev pub invariant-loop-i : goal.invariant-loop-i
invariant-loop-i l = and_then (set_places l.columns (reverse (take l.i l.names)) (drop l.i l.names)) (λ ps. Ok (l.places ++ ps)) ≡ set_places l.columns [] l.names
