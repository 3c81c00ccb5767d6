use Rattle.std.proofs.Common.{◌≡◌, drop}
use Rattle.std.specs.Cmp.Lexicographic.{pointwise}
use Rattle.meaning_tables.specs.Fits.{same_key}
use Rattle.sql_change.proofs.keys.is_same.Given as goal

abbrev pub invariant-loop-i : goal.invariant-loop-i
invariant-loop-i l = pointwise same_key (drop l.i l.key) (drop l.i l.other) ≡ pointwise same_key l.key l.other
