use Rattle.std.proofs.Common.{◌≡◌, ◌++◌, drop}
use Rattle.sql_table.proofs.roomy.RoomyTables.copy.Given as goal

abbrev pub invariant-loop-i : goal.invariant-loop-i
invariant-loop-i l = l.made.tables ++ drop l.i l.self.tables ≡ l.self.tables
