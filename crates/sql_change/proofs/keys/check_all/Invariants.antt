use Rattle.std.proofs.Common.{◌≡◌, [], drop, reverse}
use Rattle.meaning_tables.specs.Fits.{repeated}
use Rattle.sql_change.proofs.keys.check_all.Given as goal

-- the later rows repeat a key, of theirs or of the earlier ones, where all do
abbrev pub invariant-loop-i : goal.invariant-loop-i
invariant-loop-i l = repeated l.table.columns (reverse l.keys) (drop l.i l.table.rows) ≡ repeated l.table.columns [] l.table.rows
