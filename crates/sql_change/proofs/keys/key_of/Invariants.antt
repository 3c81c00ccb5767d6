use Rattle.std.proofs.Common.{◌≡◌, ◌++◌, drop}
use Rattle.meaning_tables.specs.Fits.{key_of}
use Rattle.sql_change.proofs.keys.key_of.Given as goal

abbrev pub invariant-loop-i : goal.invariant-loop-i
invariant-loop-i l = l.key ++ key_of (drop l.i l.columns) (drop l.i l.row.values) ≡ key_of l.columns l.row.values
