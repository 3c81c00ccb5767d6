use Rattle.std.proofs.Common.{◌≡◌, drop}
use Rattle.meaning_statements.specs.Changing.{place_named}
use Rattle.sql_change.proofs.places.place_named.Given as goal

abbrev pub invariant-loop-i : goal.invariant-loop-i
invariant-loop-i l = place_named l.name l.i (drop l.i l.columns) ≡ place_named l.name 0 l.columns
