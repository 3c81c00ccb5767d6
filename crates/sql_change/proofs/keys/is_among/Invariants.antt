use Rattle.std.proofs.Common.{◌≡◌, drop}
use Rattle.std.specs.Cmp.Lexicographic.{pointwise}
use Rattle.std.specs.List.{list_any}
use Rattle.meaning_tables.specs.Fits.{same_key}
use Rattle.sql_change.proofs.keys.is_among.Given as goal

abbrev pub invariant-loop-other : goal.invariant-loop-other
invariant-loop-other l = list_any (pointwise same_key l.key) (drop l.other-index l.keys) ≡ list_any (pointwise same_key l.key) l.keys
