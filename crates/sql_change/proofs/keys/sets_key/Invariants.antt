use Rattle.std.proofs.Common.{◌≡◌, drop}
use Rattle.sql_change.specs.Keys.{sets_key}
use Rattle.sql_change.proofs.keys.sets_key.Given as goal

abbrev pub invariant-loop-place : goal.invariant-loop-place
invariant-loop-place l = sets_key l.columns (drop l.place-index l.places) ≡ sets_key l.columns l.places
