use Rattle.std.proofs.Common.{◌≡◌, drop, false}
use Rattle.db_replay.specs.Columns.{rules_stand}
use Rattle.db_replay.proofs.columns.rules_stand.Given as goal

abbrev pub invariant-loop-column : goal.invariant-loop-column
invariant-loop-column l = rules_stand l.keyed (drop l.column-index l.columns) ≡ rules_stand false l.columns
