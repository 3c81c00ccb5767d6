use Rattle.std.proofs.Common.{◌≡◌, ◌++◌, drop}
use Rattle.db_changes.proofs.touched.TouchedRows.share.Given as goal

abbrev pub invariant-loop-entry : goal.invariant-loop-entry
invariant-loop-entry l = l.entries.items ++ drop l.entry-index l.self ≡ l.self
