use Rattle.std.proofs.Common.{◌≡◌, drop}
use Rattle.sql_keys.specs.Keys.{only_key}
use Rattle.sql_keys.proofs.OnlyKey.{only_key_from}
use Rattle.sql_keys.proofs.keys.place_of_key.Given as goal

-- the columns so far are no keys
abbrev pub invariant-loop-i : goal.invariant-loop-i
invariant-loop-i l = only_key_from l.i (drop l.i l.columns) ≡ only_key l.columns
