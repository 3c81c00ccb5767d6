use Rattle.std.proofs.Common.{◌≡◌, bytes_eq, drop, map}
use Rattle.meaning_tables.specs.Fits.{differ}
use Rattle.db_replay.proofs.columns.names_differ.Given as goal

abbrev pub invariant-loop-i : goal.invariant-loop-i
invariant-loop-i l = differ bytes_eq (map (λ c. c.name) (drop l.i l.columns)) ≡ differ bytes_eq (map (λ c. c.name) l.columns)
